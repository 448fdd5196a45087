-- The next log, entry by entry.
use Rattle.std.proofs.Common.{◌≡◌, ℕ, ◌+◌, ◌<◌, ◌≤◌, true, false, List, [], ◌∷◌, ◌++◌, length, take, get_or, Option, Some, None, refl, sym, ap, subst, ◌∙◌, arith, if◌then◌else◌}
use Rattle.keel_base.specs.declared.file_name.FileName.{FileName}
use Rattle.keel_base.specs.declared.file_name.FileName.TheVariants.{Log}
use Rattle.keel_base.specs.declared.listing.Entry.{Entry}
use Rattle.keel_base.specs.Name.{name_eq}
use Rattle.keel_base.proofs.Names.{name_eq-true, name_eq-same}
use Rattle.keel_disk.specs.Listings.{size_listed}
use Rattle.keel_listing.specs.declared.logs.ListedLog.{ListedLog}
use Rattle.keel_listing.specs.Logs.{IsNextIn}
use Rattle.keel_listing.proofs.Parts.{one_more}

-- a listing with one entry more
pub size_more : (name : FileName) (front : List Entry) (entry : Entry) (size : ℕ) → size_listed name front ≡ Some size → size_listed name (front ++ entry ∷ []) ≡ Some size
size_more name [] entry size e = absurd cc
size_more name (first ∷ front) entry size e =
    elim (name_eq first.name name) as (λ b. (if b then Some first.size else size_listed name front) ≡ Some size → (if b then Some first.size else size_listed name (front ++ entry ∷ [])) ≡ Some size) [
      | true ↦ λ e. e
      | false ↦ λ e. size_more name front entry size e
    ] e

pub size_new : (name : FileName) (front : List Entry) (entry : Entry) → size_listed name front ≡ None → entry.name ≡ name → size_listed name (front ++ entry ∷ []) ≡ Some entry.size
size_new name [] entry e same =
    let yes : name_eq entry.name name ≡ true = subst (λ (n : FileName). name_eq entry.name n ≡ true) same (name_eq-same entry.name) in
    rw yes refl
size_new name (first ∷ front) entry e same =
    elim (name_eq first.name name) as (λ b. (if b then Some first.size else size_listed name front) ≡ None → (if b then Some first.size else size_listed name (front ++ entry ∷ [])) ≡ Some entry.size) [
      | true ↦ λ e. absurd cc
      | false ↦ λ e. size_new name front entry e same
    ] e

apart : (a b : FileName) → (a ≡ b → ⊥) → name_eq a b ≡ false
apart a b h = elim (name_eq a b) as (λ t. name_eq a b ≡ t → t ≡ false) [ true ↦ λ e. absurd (h (name_eq-true a b e)) | false ↦ λ e. refl ] refl

pub size_still : (name : FileName) (front : List Entry) (entry : Entry) → size_listed name front ≡ None → (entry.name ≡ name → ⊥) → size_listed name (front ++ entry ∷ []) ≡ None
size_still name [] entry e other = rw (apart entry.name name other) refl
size_still name (first ∷ front) entry e other =
    elim (name_eq first.name name) as (λ b. (if b then Some first.size else size_listed name front) ≡ None → (if b then Some first.size else size_listed name (front ++ entry ∷ [])) ≡ None) [
      | true ↦ λ e. absurd cc
      | false ↦ λ e. size_still name front entry e other
    ] e

pub same_number : (m n : ℕ) → Log m ≡ Log n → m ≡ n
same_number m n e = cc

-- an entry that is no log from the least on, or none below the one that was chosen, changes nothing
pub kept : (front : List Entry) (least : ℕ) (chosen : Option ListedLog) (entry : Entry) → ((number : ℕ) → least ≤ number → entry.name ≡ Log number → ⊥)
    → IsNextIn front least chosen → IsNextIn (front ++ entry ∷ []) least chosen
kept front least None entry other h = λ number low. size_still (Log number) front entry (h number low) (other number low)
kept front least (Some log) entry other h = record {
  above = h.above;
  listed = size_more (Log log.number) front entry log.size h.listed;
  between = λ number low high. size_still (Log number) front entry (h.between number low high) (other number low);
}

pub not_nearer : (front : List Entry) (least number : ℕ) (log : ListedLog) (entry : Entry) → entry.name ≡ Log number → log.number ≤ number
    → IsNextIn front least (Some log) → IsNextIn (front ++ entry ∷ []) least (Some log)
not_nearer front least number log entry name far h = record {
  above = h.above;
  listed = size_more (Log log.number) front entry log.size h.listed;
  between = λ n low high. size_still (Log n) front entry (h.between n low high) (λ e. omega (arith, same_number number n (sym name ∙ e), far, high));
}

abbrev IsNearer : ℕ → Option ListedLog → Type 0
IsNearer number None = Unit {0}
IsNearer number (Some log) = number < log.number

none_yet : (front : List Entry) (least number : ℕ) (chosen : Option ListedLog) → IsNearer number chosen → IsNextIn front least chosen → (n : ℕ) → least ≤ n → n ≤ number → size_listed (Log n) front ≡ None
none_yet front least number None near h n low high = h n low
none_yet front least number (Some log) near h n low high = h.between n low (omega (arith, near, high))

nearer_log : (front : List Entry) (least : ℕ) (chosen : Option ListedLog) (log : ListedLog) (entry : Entry) → entry.name ≡ Log log.number → entry.size ≡ log.size → least ≤ log.number
    → IsNearer log.number chosen → IsNextIn front least chosen → IsNextIn (front ++ entry ∷ []) least (Some log)
nearer_log front least chosen log entry name size low near h = record {
  above = low;
  listed = size_new (Log log.number) front entry (none_yet front least log.number chosen near h log.number low (omega arith)) name ∙ ap (λ (n : ℕ). Some n) size;
  between = λ n above below. size_still (Log n) front entry (none_yet front least log.number chosen near h n above (omega (arith, below))) (λ e. omega (arith, same_number log.number n (sym name ∙ e), below));
}

pub first_log : (front : List Entry) (least : ℕ) (log : ListedLog) (entry : Entry) → entry.name ≡ Log log.number → entry.size ≡ log.size → least ≤ log.number
    → IsNextIn front least None → IsNextIn (front ++ entry ∷ []) least (Some log)
first_log front least log entry name size low h = nearer_log front least None log entry name size low tt h

pub nearer_still : (front : List Entry) (least : ℕ) (before log : ListedLog) (entry : Entry) → entry.name ≡ Log log.number → entry.size ≡ log.size → least ≤ log.number → log.number < before.number
    → IsNextIn front least (Some before) → IsNextIn (front ++ entry ∷ []) least (Some log)
nearer_still front least before log entry name size low near h = nearer_log front least (Some before) log entry name size low near h

pub one_chosen_more : (listing : List Entry) (i least : ℕ) (entry default : Entry) (before after : Option ListedLog) → i < length listing → entry ≡ get_or listing i default
    → ((front : List Entry) → IsNextIn front least before → IsNextIn (front ++ entry ∷ []) least after) → IsNextIn (take i listing) least before → IsNextIn (take (i + 1) listing) least after
one_chosen_more listing i least entry default before after lt is step h =
    subst (λ (l : List Entry). IsNextIn l least after) (sym (one_more listing i entry default lt is)) (step (take i listing) h)
