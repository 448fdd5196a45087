-- What a crash of a simulated device leaves.
use Rattle.std.specs.Prelude.{ℕ, ◌+◌, ◌-◌, ◌%◌, min, List, ◌++◌, length, take, map}
use Rattle.std.specs.List.{range_with_len}
use Rattle.keel_disk.specs.declared.rule.Pick.{Pick}
use Rattle.keel_disk.specs.declared.state.File.{File}
use Rattle.keel_disk.specs.Directory.{Named}
use Rattle.keel_disk.specs.Image.{AreImages}
use Rattle.keel_disk.specs.Plain.{ArePlain}
use Rattle.keel_disk.specs.State.{State, file_at, settled_through}

-- the seed and the numbers behind it, modulo 256
abbrev pub garbage : ℕ → ℕ → List ℕ
garbage seed count = map (λ i. (seed + i) % 256) (range_with_len 0 count)

-- the firm bytes and so many past them, then garbage in place of the next ones; the rest is lost
abbrev pub bytes_left : Pick → File → List ℕ
bytes_left pick file =
    let kept = file.firm + pick.keep in
    take kept file.meant ++ garbage pick.seed (min pick.garbage (length file.meant - kept))

-- what is left of each name's file
abbrev pub image_of : Pick → List File → Named ℕ → Named (List ℕ)
image_of pick files directory = map (λ entry. (entry.0, bytes_left pick (file_at entry.1 files))) directory

-- the image that a crash leaves: the first waiting operations are done
abbrev pub image_left : Pick → State → Named (List ℕ)
image_left pick state = let settled = settled_through pick.dirops state in image_of pick settled.files settled.firm

-- it is an image with these operations done
abbrev pub IsImageLeft : Pick → State → Type 0
IsImageLeft pick state = let settled = settled_through pick.dirops state in AreImages settled.files settled.firm (image_left pick state)

-- no fragment of it is good by chance against the same operations done
abbrev pub IsPlainLeft : Pick → State → Type 0
IsPlainLeft pick state = let settled = settled_through pick.dirops state in ArePlain settled.files settled.firm (image_left pick state)
