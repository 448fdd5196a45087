-- Files stay bytes of which no more is firm than was meant.
use Rattle.std.proofs.Common.{ℕ, ◌<◌, ◌≤◌, true, false, List, [], ◌∷◌, All, length, take, arith, if◌then◌else◌, length-append, length-take, ⊎_elim, subst, sym}
use Rattle.std.proofs.lemmas.Bool.{cases_lt}
use Rattle.std.proofs.lemmas.List.{get_or_past}
use Rattle.std.proofs.lemmas.List.Elements.{All-nil, All-append, All-take, All-set, All-get_or}
use Rattle.keel_disk.specs.declared.state.File.{File}
use Rattle.keel_disk.specs.declared.state.Operation.{Operation}
use Rattle.keel_disk.specs.declared.state.Operation.TheVariants.{Link, Move, Unlink, Shorten}
use Rattle.keel_disk.specs.State.{new_file, file_at, shortened, files_operated, files_operated_all}
use Rattle.keel_disk.specs.Step.{extended, spoiled, synced, cut_read}
use Rattle.keel_disk.specs.Image.{AreBytes}
use Rattle.keel_disk.specs.Sound.{IsFile}

pub new_is_file : IsFile new_file
new_is_file = record { firm_is_meant = omega arith; meant_are = All-nil (λ byte. byte < 256); read_are = All-nil (λ byte. byte < 256) }

pub is_file_at : (number : ℕ) (files : List File) → All IsFile files → IsFile (file_at number files)
is_file_at number files all =
    ⊎_elim (λ below. let within : number < length files = below in All-get_or IsFile files number new_file within all)
    (λ past. let outside : length files ≤ number = past in subst IsFile (sym (get_or_past files number new_file outside)) new_is_file)
    (cases_lt number (length files))

pub extended_is_file : (bytes : List ℕ) (kept : ℕ) (file : File) → AreBytes bytes → IsFile file → IsFile (extended bytes kept file)
extended_is_file bytes kept file all is = record {
  firm_is_meant = omega (arith, is.firm_is_meant, length-append file.meant bytes);
  meant_are = All-append (λ byte. byte < 256) file.meant bytes is.meant_are all;
  read_are = All-append (λ byte. byte < 256) file.read (take kept bytes) is.read_are (All-take (λ byte. byte < 256) kept bytes all);
}

pub spoiled_is_file : (file : File) → IsFile file → IsFile (spoiled file)
spoiled_is_file file is = record { firm_is_meant = is.firm_is_meant; meant_are = is.meant_are; read_are = is.read_are }

pub synced_is_file : (file : File) → IsFile file → IsFile (synced file)
synced_is_file file is =
    elim file.spoilt as (λ b. IsFile (if b then file else record file { firm = length file.meant })) [
      | true ↦ is
      | false ↦ record { firm_is_meant = omega arith; meant_are = is.meant_are; read_are = is.read_are }
    ]

pub cut_is_file : (size : ℕ) (file : File) → IsFile file → IsFile (cut_read size file)
cut_is_file size file is = record {
  firm_is_meant = is.firm_is_meant;
  meant_are = is.meant_are;
  read_are = All-take (λ byte. byte < 256) size file.read is.read_are;
}

pub shortened_is_file : (size : ℕ) (file : File) → IsFile file → IsFile (shortened size file)
shortened_is_file size file is = record {
  firm_is_meant = omega (arith, is.firm_is_meant, length-take size file.meant);
  meant_are = All-take (λ byte. byte < 256) size file.meant is.meant_are;
  read_are = is.read_are;
}

pub files-operated : (operations : List Operation) (files : List File) → All IsFile files → All IsFile (files_operated_all operations files)
files-operated [] files all = all
files-operated (Link name number ∷ rest) files all = files-operated rest files all
files-operated (Move from to ∷ rest) files all = files-operated rest files all
files-operated (Unlink name ∷ rest) files all = files-operated rest files all
files-operated (Shorten number size ∷ rest) files all =
    files-operated rest (files_operated (Shorten number size) files)
    (All-set IsFile files number (shortened size (file_at number files)) (shortened_is_file size (file_at number files) (is_file_at number files all)) all)
