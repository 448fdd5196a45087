-- What a torn manifest, or one as it is read, gives of its edits.
use Rattle.std.specs.List.{AllByRecursion}
use Rattle.std.proofs.Common.{◌≡◌, ℕ, zero, suc, ◌+◌, ◌-◌, ◌≤◌, List, [], ◌∷◌, length, map, take, Some, Result, Ok, Err, refl, sym, ap, ◌∙◌, arith}
use Rattle.std.proofs.lemmas.List.{length-map, length-take-le}
use Rattle.keel_directory.specs.Manifests.{ManifestIs, behind_edits, version_of}
use Rattle.keel_edit.specs.declared.edit.Edit.{Edit}
use Rattle.keel_edit.specs.declared.edit.EditError.TheVariants as errors
use Rattle.keel_edit.specs.Reading.{edit_of}
use Rattle.keel_edit.specs.Spelling.{spelling, IsEdit}
use Rattle.keel_edit.proofs.Fitting.{decoded_only}
use Rattle.keel_frag.specs.Images.{IsImage, IsPlain}
use Rattle.keel_frag.specs.Writing.{first_offset, record_bytes, records_bytes, records_at}
use Rattle.keel_frag.proofs.Existing.{has_records}
use Rattle.keel_frag.proofs.TornRecords.{torn_records}
use Rattle.keel_recovery.specs.Chains.{size_of_first}
use Rattle.keel_recovery.specs.Roots.{then_behind, version_behind}
use Rattle.keel_version.specs.Applying.{applied}
use Rattle.keel_version.specs.Tables.{Contents, nothing}

-- what is spelled is read again
edit_again : (edit : Edit) → IsEdit edit → edit_of (spelling edit) ≡ Ok edit
edit_again edit h = by (edit_of (spelling edit)) refl
  where
    by : (read : Result Edit ℕ) → edit_of (spelling edit) ≡ read → edit_of (spelling edit) ≡ Ok edit
    by (Ok found) e = let is : found ≡ edit = decoded_only (spelling edit) (Ok found) e edit h refl in e ∙ (λ i. Ok (is i))
    by (Err left) e = absurd (decoded_only (spelling edit) (Err (errors.BadShape (length (spelling edit) - left))) (left, e, refl) edit h refl)

edits_give : (offset : ℕ) (before version : Contents) (edits : List Edit) → AllByRecursion IsEdit edits → version_behind before edits ≡ Some version
    → behind_edits before (records_at offset (map spelling edits)) ≡ Ok version
unfolding records_at
edits_give offset before version [] are is = let same : before ≡ version = cc in λ i. Ok (same i)
edits_give offset before version (edit ∷ edits) are is =
    by (applied edit before) refl is (λ next. edits_give (offset + length (record_bytes offset (spelling edit))) next version edits are.1)
  where
    by : (next : Result Contents ℕ) → applied edit before ≡ next → then_behind next (λ after. version_behind after edits) ≡ Some version
        → ((after : Contents) → version_behind after edits ≡ Some version → behind_edits after (records_at (offset + length (record_bytes offset (spelling edit))) (map spelling edits)) ≡ Ok version)
        → behind_edits before (record { offset = first_offset offset; payload = spelling edit } ∷ records_at (offset + length (record_bytes offset (spelling edit))) (map spelling edits)) ≡ Ok version
    by (Ok after) e is later = rw (edit_again edit are.0, e) (later after is)
    by (Err left) e is later = cc

take_spelled : (count : ℕ) (edits : List Edit) → take count (map spelling edits) ≡ map spelling (take count edits)
take_spelled zero edits = refl
take_spelled (suc count) [] = refl
take_spelled (suc count) (edit ∷ edits) = ap (λ (l : List (List ℕ)). spelling edit ∷ l) (take_spelled count edits)

edits_taken : (count : ℕ) (edits : List Edit) → AllByRecursion IsEdit edits → AllByRecursion IsEdit (take count edits)
edits_taken zero edits are = tt
edits_taken (suc count) [] are = tt
edits_taken (suc count) (edit ∷ edits) are = (are.0, edits_taken count edits are.1)

version_is : (version : Contents) (edits : List Edit) → 1 ≤ length edits → AllByRecursion IsEdit edits → version_behind nothing edits ≡ Some version → version_of (records_at 0 (map spelling edits)) ≡ Ok version
unfolding records_at
version_is version [] some are is = absurd (omega (arith, some))
version_is version (edit ∷ edits) some are is = edits_give 0 nothing version (edit ∷ edits) are is

-- The bytes give the version behind the first so many edits, and no fewer than are firm.
pub record GivesVersion (firm : ℕ) (edits : List Edit) (bytes : List ℕ) : Type 0 where
  pub count : ℕ
  pub enough : firm ≤ count
  pub within : count ≤ length edits
  pub gives : (version : Contents) → version_behind nothing (take count edits) ≡ Some version → ManifestIs (Some bytes) (Ok version)

pub torn_version : (least firm : ℕ) (edits : List Edit) (bytes : List ℕ) → 1 ≤ least → least ≤ length edits → AllByRecursion IsEdit edits
    → size_of_first least (map spelling edits) ≤ firm → IsImage firm (records_bytes 0 (map spelling edits)) bytes → IsPlain (records_bytes 0 (map spelling edits)) bytes → GivesVersion least edits bytes
torn_version least firm edits bytes some within are firm_to is_image plain =
    let payloads = map spelling edits in
    let many : length payloads ≡ length edits = length-map edits spelling in
    let found = has_records bytes in
    let holds = torn_records firm payloads (records_bytes 0 payloads) bytes found.0 found.1.0 refl is_image plain found.1.1 in
    let enough : least ≤ holds.count = holds.firm_found least (omega (arith, many, within)) firm_to in
    record {
      count = holds.count;
      enough = enough;
      within = omega (arith, holds.within, many);
      gives = λ version is. (
        found.0,
        found.1.0,
        found.1.1,
        sym (ap version_of (holds.found_are ∙ ap (records_at 0) (take_spelled holds.count edits))
            ∙ version_is version (take holds.count edits) (omega (arith, some, enough, length-take-le holds.count edits (omega (arith, holds.within, many)))) (edits_taken holds.count edits are) is),
      );
    }
