use Rattle.std.proofs.Common.{◌≡◌, List, All, take, sym, subst, arith}
use Rattle.std.proofs.lemmas.Grind.{common_steps}
use Rattle.keel_disk.specs.declared.state.File.{File}
use Rattle.keel_disk.specs.State.{State, files_operated_all}
use Rattle.keel_disk.specs.Sound.{IsFile}
use Rattle.keel_disk.proofs.SoundFiles.{files-operated}
use Rattle.keel_simdisk.proofs.tree.Tree.crashed.Goals as goal

pub restart-requires : goal.restart-requires
restart-requires c =
    let operations = take c.min-count.result c.self.inside.waiting.items in
    let files : c.deref-5.result.now ≡ files_operated_all operations c.self.inside.files.items = grind (arith, common_steps) in
    let kept : All IsFile c.self.inside.files.items = subst (λ (s : State). All IsFile s.files) (sym c.self.view_is) c.requires in
    subst (λ (fs : List File). All IsFile fs) (sym files) (files-operated operations c.self.inside.files.items kept)
