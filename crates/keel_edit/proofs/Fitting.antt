-- What is read is spelled so, and what is spelled so is read.
use Rattle.std.proofs.Common.{◌≡◌, ℕ, suc, ◌^◌, ◌<◌, true, cond, List, [], ◌∷◌, ◌++◌, length, Result, Ok, Err, refl, sym, ap, subst, ◌∙◌, append_assoc, arith}
use Rattle.std.specs.Prelude.{IfOk, nat_le, ◌&&◌}
use Rattle.std.specs.List.{flat_map, AllByRecursion}
use Rattle.std.specs.Int.{w32, w64}
use Rattle.keel_base.specs.Keys.{key_le}
use Rattle.keel_base.specs.Name.{IsFileNumber}
use Rattle.keel_base.specs.Weight.{IsKey}
use Rattle.keel_fields.specs.Reading.{◌>>=◌, bytes_at, both}
use Rattle.keel_fields.proofs.Fields.{IsBytes, IsBytes-rest, bind_ok, check_ok, ok_is, Takes, Takes-then, IsField, Between, between_true, true_between, wide32, wide64, bounded_field, bytes_takes, bytes_again, sized_field, both_field, linked_field, made_field, refit_field, counted_field, alone_takes, alone_again}
use Rattle.keel_edit.specs.declared.edit.Added.{Added}
use Rattle.keel_edit.specs.declared.edit.Removed.{Removed}
use Rattle.keel_edit.specs.declared.edit.Edit.{Edit}
use Rattle.keel_edit.specs.declared.edit.EditError.{EditError}
use Rattle.keel_edit.specs.declared.edit.EditError.TheVariants as errors
use Rattle.keel_edit.specs.Laws.{OneSpelling}
use Rattle.keel_edit.specs.Spelling.{number, count, sized, removed_bytes, added_bytes, spelling, IsNumber, IsLevel, IsRemoved, IsAdded, IsEdit}
use Rattle.keel_edit.specs.Reading.{bounded_byte_at, level_at, file_number_at, any_number_at, key_length_at, key_at, greatest_at, removed_at, make_removed, Numbers, numbers_at, make_added, added_at, make_edit, edit_at, edit_of, Decodes, Is}

-- ---- numbers and keys

byte_takes : (least most : ℕ) (bytes : List ℕ) (x : ℕ × List ℕ) → IsBytes bytes → bounded_byte_at least most bytes ≡ Ok x → Takes bytes (x.0 ∷ []) x.1 × Between least most x.0
unfolding bounded_byte_at
byte_takes least most [] x fits e = absurd cc
byte_takes least most (b ∷ rest) x fits e =
    let g = check_ok (nat_le least b && nat_le b most) (suc (length rest)) (b, rest) x e in
    subst (λ (y : ℕ × List ℕ). Takes (b ∷ rest) (y.0 ∷ []) y.1 × Between least most y.0) g.1
    (record { parts = refl; rest_fits = IsBytes-rest b rest fits }, between_true least b most g.0)

byte_again : (least most n : ℕ) (rest : List ℕ) → Between least most n → bounded_byte_at least most (n ∷ rest) ≡ Ok (n, rest)
unfolding bounded_byte_at
byte_again least most n rest h = rw (true_between least n most h) refl

byte_field : (least most : ℕ) → IsField (bounded_byte_at least most) (λ n. n ∷ []) (Between least most)
byte_field least most = record { takes = byte_takes least most; again = byte_again least most }

level_field : IsField level_at (λ n. n ∷ []) IsLevel
level_field =
    refit_field level_at (λ n. n ∷ []) (Between 0 3) (λ n. n ∷ []) IsLevel (λ n. refl) (λ n h. h.1) (λ n h. (omega arith, h)) (byte_field 0 3)

file_number_field : IsField file_number_at number IsFileNumber
unfolding number
file_number_field =
    refit_field file_number_at number (Between 1 (2 ^ 56)) number IsFileNumber (λ n. refl) (λ n h. record { least = h.0; most = h.1 }) (λ n h. (h.least, h.most))
    (bounded_field w64 (2 ^ 64) wide64 1 (2 ^ 56) (omega arith))

any_number_field : IsField any_number_at number IsNumber
unfolding number
any_number_field =
    refit_field any_number_at number (Between 0 (2 ^ 56)) number IsNumber (λ n. refl) (λ n h. h.1) (λ n h. (omega arith, h))
    (bounded_field w64 (2 ^ 64) wide64 0 (2 ^ 56) (omega arith))

key_length_field : IsField key_length_at count (Between 1 1024)
unfolding count
key_length_field = bounded_field w32 (2 ^ 32) wide32 1 1024 (omega arith)

is_key : (key : List ℕ) → Between 1 1024 (length key) → IsKey key
is_key key h = record { some = omega (arith, h.0); most = h.1 }

key_is : (key : List ℕ) → IsKey key → Between 1 1024 (length key)
key_is key h = (omega (arith, h.some), h.most)

key_field : IsField key_at sized IsKey
unfolding key_at
key_field =
    refit_field key_at sized (λ key. Between 1 1024 (length key)) sized IsKey (λ key. refl) is_key key_is
    (sized_field key_length_at count (Between 1 1024) key_length_field)

abbrev IsOver : List ℕ → List ℕ → Type 0
IsOver least key = IsKey key × (key_le least key ≡ true)

greatest_takes : (least bytes : List ℕ) (x : List ℕ × List ℕ) → IsBytes bytes → greatest_at least bytes ≡ Ok x → Takes bytes (sized x.0) x.1 × IsOver least x.0
unfolding greatest_at
greatest_takes least bytes x fits e =
    let n = bind_ok (key_length_at bytes) (λ size. bytes_at size.0 size.1 >>= λ key. cond (key_le least key.0) (Ok key) (Err (length size.1))) x e in
    let k = bind_ok (bytes_at n.0.0 n.0.1) (λ key. cond (key_le least key.0) (Ok key) (Err (length n.0.1))) x n.2 in
    let g = check_ok (key_le least k.0.0) (length n.0.1) k.0 x k.2 in
    let t = key_length_field.takes bytes n.0 fits n.1 in
    let u = bytes_takes n.0.0 n.0.1 k.0 t.0.rest_fits k.1 in
    let taken = Takes-then bytes (count n.0.0) n.0.1 k.0.0 k.0.1 t.0 u.0 in
    subst (λ (y : List ℕ × List ℕ). Takes bytes (sized y.0) y.1 × IsOver least y.0) g.1
    (subst (λ (m : ℕ). Takes bytes (count m ++ k.0.0) k.0.1) (sym u.1) taken, (is_key k.0.0 (subst (λ (m : ℕ). Between 1 1024 m) (sym u.1) t.1), g.0))

greatest_again : (least key rest : List ℕ) → IsOver least key → greatest_at least (sized key ++ rest) ≡ Ok (key, rest)
unfolding greatest_at
greatest_again least key rest h =
    ap (greatest_at least) (append_assoc (count (length key)) key rest)
    ∙ rw (key_length_field.again (length key) (key ++ rest) (key_is key h.0), bytes_again key rest, h.1) refl

greatest_field : (least : List ℕ) → IsField (greatest_at least) sized (IsOver least)
greatest_field least = record { takes = greatest_takes least; again = greatest_again least }

-- ---- tables

abbrev split_removed : Removed → ℕ × ℕ
split_removed r = (r.level, r.number)

removed_field : IsField removed_at removed_bytes IsRemoved
unfolding removed_at
removed_field =
    made_field make_removed split_removed _ _ _ (λ p _. refl) (λ r. refl) (both_field _ _ _ _ _ _ level_field file_number_field)

abbrev FitNumbers : Numbers → Type 0
FitNumbers p = ((((IsLevel p.0.0.0.0.0 × IsFileNumber p.0.0.0.0.1) × IsNumber p.0.0.0.1) × IsNumber p.0.0.1) × IsNumber p.0.1) × IsNumber p.1

abbrev numbers_text : Numbers → List ℕ
numbers_text p =
    ((((((p.0.0.0.0.0 ∷ []) ++ number p.0.0.0.0.1) ++ number p.0.0.0.1) ++ number p.0.0.1) ++ number p.0.1) ++ number p.1)

numbers_field : IsField numbers_at numbers_text FitNumbers
unfolding numbers_at
numbers_field =
    both_field _ _ _ _ _ _ (both_field _ _ _ _ _ _ (both_field _ _ _ _ _ _ (both_field _ _ _ _ _ _ (both_field _ _ _ _ _ _ level_field file_number_field) any_number_field) any_number_field) any_number_field) any_number_field

abbrev split_numbers : Added → Numbers
split_numbers a = (((((a.level, a.number), a.size), a.rows), a.first), a.last)

abbrev split_added : Added → (Numbers × List ℕ) × List ℕ
split_added a = ((split_numbers a, a.least), a.greatest)

abbrev added_text : Added → List ℕ
added_text a = (numbers_text (split_numbers a) ++ sized a.least) ++ sized a.greatest

abbrev FitAdded : Added → Type 0
FitAdded a = (FitNumbers (split_numbers a) × IsKey a.least) × IsOver a.least a.greatest

added_parts : IsField added_at added_text FitAdded
unfolding added_at
added_parts =
    made_field make_added split_added _ _ _ (λ p _. refl) (λ a. refl)
    (linked_field (both numbers_at key_at) (λ p. numbers_text p.0 ++ sized p.1) (λ p. FitNumbers p.0 × IsKey p.1) (λ p. greatest_at p.1) sized (λ p. IsOver p.1)
    (both_field _ _ _ _ _ _ numbers_field key_field) (λ p _. greatest_field p.1))

eight : (l n s r f t k g : List ℕ) → (((((((l ++ n) ++ s) ++ r) ++ f) ++ t) ++ k) ++ g) ≡ (l ++ (n ++ (s ++ (r ++ (f ++ t))))) ++ (k ++ g)
eight l n s r f t k g = simp append_assoc

six : (l n s r f t : List ℕ) → (((((l ++ n) ++ s) ++ r) ++ f) ++ t) ≡ l ++ (n ++ (s ++ (r ++ (f ++ t))))
six l n s r f t = simp append_assoc

added_same : (a : Added) → added_text a ≡ added_bytes a
added_same a = eight (a.level ∷ []) (number a.number) (number a.size) (number a.rows) (number a.first) (number a.last) (sized a.least) (sized a.greatest)

added_to : (a : Added) → FitAdded a → IsAdded a
added_to a f = record {
  level = f.0.0.0.0.0.0.0;
  number = f.0.0.0.0.0.0.1;
  size = f.0.0.0.0.0.1;
  rows = f.0.0.0.0.1;
  first = f.0.0.0.1;
  last = f.0.0.1;
  least = f.0.1;
  greatest = f.1.0;
  in_order = f.1.1;
}

added_from : (a : Added) → IsAdded a → FitAdded a
added_from a h = (((((((h.level, h.number), h.size), h.rows), h.first), h.last), h.least), (h.greatest, h.in_order))

added_field : IsField added_at added_bytes IsAdded
added_field = refit_field added_at added_text FitAdded added_bytes IsAdded added_same added_to added_from added_parts

-- ---- edits

abbrev Parts : Type 0
Parts = ((((ℕ × ℕ) × ℕ) × ℕ) × List Removed) × List Added

abbrev split_edit : Edit → Parts
split_edit e = (((((1, e.min_log), e.next_file), e.last_seq), e.removed), e.added)

abbrev parts_text : Parts → List ℕ
parts_text p =
    (((((p.0.0.0.0.0 ∷ []) ++ number p.0.0.0.0.1) ++ number p.0.0.0.1) ++ number p.0.0.1)
    ++ (count (length p.0.1) ++ flat_map removed_bytes p.0.1))
    ++ (count (length p.1) ++ flat_map added_bytes p.1)

abbrev FitParts : Parts → Type 0
FitParts p =
    ((((Between 1 1 p.0.0.0.0.0 × IsNumber p.0.0.0.0.1) × IsFileNumber p.0.0.0.1) × IsNumber p.0.0.1)
    × ((length p.0.1 < 2 ^ 32) × AllByRecursion IsRemoved p.0.1))
    × ((length p.1 < 2 ^ 32) × AllByRecursion IsAdded p.1)

is_format : (p : Parts) → FitParts p → split_edit (make_edit p) ≡ p
is_format p h =
    let one : 1 ≡ p.0.0.0.0.0 = omega (arith, h.0.0.0.0.0.0, h.0.0.0.0.0.1) in
    ap (λ (n : ℕ). (((((n, p.0.0.0.0.1), p.0.0.0.1), p.0.0.1), p.0.1), p.1)) one

edit_parts : IsField edit_at (λ e. parts_text (split_edit e)) (λ e. FitParts (split_edit e))
unfolding edit_at count
edit_parts =
    made_field make_edit split_edit _ parts_text FitParts is_format (λ e. refl)
    (both_field _ _ _ _ _ _ (both_field _ _ _ _ _ _ (both_field _ _ _ _ _ _ (both_field _ _ _ _ _ _ (both_field _ _ _ _ _ _ (byte_field 1 1) any_number_field) file_number_field) any_number_field)
    (counted_field w32 (2 ^ 32) wide32 removed_at removed_bytes IsRemoved removed_field)) (counted_field w32 (2 ^ 32) wide32 added_at added_bytes IsAdded added_field))

edit_same : (e : Edit) → parts_text (split_edit e) ≡ spelling e
unfolding spelling
edit_same e = six (1 ∷ []) (number e.min_log) (number e.next_file) (number e.last_seq) (count (length e.removed) ++ flat_map removed_bytes e.removed) (count (length e.added) ++ flat_map added_bytes e.added)

edit_to : (e : Edit) → FitParts (split_edit e) → IsEdit e
edit_to e f = record {
  min_log = f.0.0.0.0.1;
  next_file = f.0.0.0.1;
  last_seq = f.0.0.1;
  few_removed = f.0.1.0;
  removed = f.0.1.1;
  few_added = f.1.0;
  added = f.1.1;
}

edit_from : (e : Edit) → IsEdit e → FitParts (split_edit e)
edit_from e h = ((((((omega arith, omega arith), h.min_log), h.next_file), h.last_seq), (h.few_removed, h.removed)), (h.few_added, h.added))

edit_field : IsField edit_at spelling IsEdit
edit_field = refit_field edit_at (λ e. parts_text (split_edit e)) (λ e. FitParts (split_edit e)) spelling IsEdit edit_same edit_to edit_from edit_parts

-- ---- what decoding answers

pub decoded : (bytes : List ℕ) (r : Result Edit EditError) → IsBytes bytes → Decodes bytes r → IfOk r (λ e. IsEdit e × (bytes ≡ spelling e))
decoded bytes (Ok found) fits given =
    let t = alone_takes edit_at spelling IsEdit edit_field bytes found fits given in
    (t.1, t.0)
decoded bytes (Err e) fits given = tt

abbrev failed : {A : Type 0} → ℕ → Result A ℕ
failed left = Err left

differ : {A : Type 0} (left : ℕ) (x : A) → failed left ≡ Ok x → ⊥
differ left x e = cc

is_one : (bytes : List ℕ) (r : Result Edit EditError) → Decodes bytes r → (e : Edit) → edit_of bytes ≡ Ok e → Is r e
is_one bytes (Ok found) given e h = ok_is found e (sym given ∙ h)
is_one bytes (Err errors.OutOfMemory) given e h = tt
is_one bytes (Err (errors.BadShape at)) given e h = differ given.0 e (sym given.1 ∙ h)

pub decoded_only : (bytes : List ℕ) (r : Result Edit EditError) → Decodes bytes r → (e : Edit) → IsEdit e → bytes ≡ spelling e → Is r e
decoded_only bytes r given e fits h =
    is_one bytes r given e (ap edit_of h ∙ alone_again edit_at spelling IsEdit edit_field e fits)

-- ---- one spelling

pub one_spelling : OneSpelling
one_spelling one other fits others same =
    let read = alone_again edit_at spelling IsEdit edit_field one fits in
    let again = alone_again edit_at spelling IsEdit edit_field other others in
    ok_is one other (sym read ∙ ap edit_of same ∙ again)
