-- What a handler is behind a failure.
use Rattle.std.specs.Prelude.{nat_lt, Some, if◌then◌else◌}
use Rattle.keel_base.specs.declared.failure.Failure.{Failure}
use Rattle.keel_handler.specs.Failures.{severity, standing_severity}
use Rattle.keel_handler.specs.Recovery.{HandlerState, renewed}

-- a failure replaces the one that stands exactly where it is more severe
abbrev pub noted : Failure → HandlerState → HandlerState
noted failure handler =
    if nat_lt (standing_severity handler.paranoid handler.standing) (severity handler.paranoid failure) then renewed (Some failure) handler else handler
