-- What a refusal names.
use Rattle.keel_table.specs.declared.fault.TableFault.{TableFault}
use Rattle.keel_table.specs.declared.fault.TableFault.TheVariants as fault
use Rattle.keel_table.specs.Opening.{Damage, bad_check, bad_shape}
use Rattle.keel_directory.specs.Refusals.{Refusal, no_current, bad_current, damaged_manifest, missing_table, bad_table, bad_log, log_gap}
use Rattle.keel_open.specs.declared.refusal.OpenRefusal.{OpenRefusal}
use Rattle.keel_open.specs.declared.refusal.OpenRefusal.TheVariants as refusal
use Rattle.keel_open.specs.Refusals.{Damages, Names}

pub damages_map : (f : TableFault) (P Q : Damage → Type 0) → ((d : Damage) → P d → Q d) → Damages f P → Damages f Q
damages_map (fault.Device f) P Q step h = h
damages_map fault.Absent P Q step h = h
damages_map (fault.BadCheck stored computed) P Q step h = step (bad_check stored computed) h
damages_map (fault.BadShape at) P Q step h = step (bad_shape at) h
damages_map fault.OutOfMemory P Q step h = h

pub names_map : (e : OpenRefusal) (P Q : Refusal → Type 0) → ((r : Refusal) → P r → Q r) → Names e P → Names e Q
names_map (refusal.Device fault) P Q step h = h
names_map (refusal.NoCurrent file) P Q step h = step (no_current file) h
names_map (refusal.BadCurrent bytes) P Q step h = step (bad_current bytes) h
names_map (refusal.DamagedManifest at) P Q step h = step (damaged_manifest at) h
names_map (refusal.MissingTable number) P Q step h = step (missing_table number) h
names_map (refusal.BadTable number fault) P Q step h = damages_map fault (λ d. P (bad_table number d)) (λ d. Q (bad_table number d)) (λ d. step (bad_table number d)) h
names_map (refusal.BadLog log at) P Q step h = step (bad_log log at) h
names_map (refusal.LogGap log expected found) P Q step h = step (log_gap log expected found) h
names_map refusal.OutOfMemory P Q step h = h
