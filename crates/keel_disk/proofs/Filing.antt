-- A file that is read in parts.
use Rattle.std.proofs.Common.{◌≡◌, ℕ, zero, suc, ◌<◌, ◌≤◌, List, [], ◌∷◌, ◌++◌, length, take, drop, Option, Some, None, Ok, Err, unwrap_or, option_map, refl, sym, ap, ◌∙◌, append_assoc, arith}
use Rattle.std.proofs.lemmas.List.{append-nil, drop_at, take-append-drop, length-append}
use Rattle.keel_base.specs.declared.file_name.FileName.{FileName}
use Rattle.keel_disk.specs.declared.error.ReadError.TheVariants as read
use Rattle.keel_disk.specs.State.{file_at}
use Rattle.keel_disk.specs.Told.{Told, TellsRead, TellsSize, TellsAbsent, bytes_of}
use Rattle.keel_disk.specs.Files.{content, IsContent, IsNextPart, Continues, Begins}

abbrev found : List ℕ → Option (List ℕ)
found bytes = Some bytes

some_is : (x y : List ℕ) → found x ≡ found y → x ≡ y
some_is x y e = cc

none_is : (x : List ℕ) → (let none : Option (List ℕ) = None in none) ≡ found x → ⊥
none_is x e = cc

nothing_taken : (size : ℕ) (rest : List ℕ) → 0 < size → take size rest ≡ [] → drop size rest ≡ []
nothing_taken zero rest some e = absurd (omega (arith, some))
nothing_taken (suc size) [] some e = refl
nothing_taken (suc size) (x ∷ rest) some e = absurd cc

pub nothing_begins : (name : FileName) (told : Option Told) → Begins name told []
nothing_begins name None = tt
nothing_begins name (Some told) = (content name told, refl)

part_of : (all front rest part : List ℕ) (size : ℕ) → 0 < size → all ≡ front ++ rest → take size (drop (length front) all) ≡ part → IsNextPart all front part
part_of all front rest part size some parts taken =
    let behind : drop (length front) all ≡ rest = ap (drop (length front)) parts ∙ drop_at front rest (length front) refl in
    let is : take size rest ≡ part = sym (ap (take size) behind) ∙ taken in
    record {
      rest = drop size rest;
      splits = parts ∙ ap (λ (l : List ℕ). front ++ l) (sym (take-append-drop size rest) ∙ ap (λ (l : List ℕ). l ++ drop size rest) is);
      some = λ none. nothing_taken size rest some (is ∙ none);
    }

read_from : (bytes : Option (List ℕ)) (front rest part : List ℕ) (size : ℕ) → 0 < size → unwrap_or bytes [] ≡ front ++ rest
    → option_map (λ all. take size (drop (length front) all)) bytes ≡ found part → IsNextPart (unwrap_or bytes []) front part
read_from None front rest part size some parts e = absurd (none_is part e)
read_from (Some all) front rest part size some parts e = part_of all front rest part size some parts (some_is (take size (drop (length front) all)) part e)

pub part_read : (name : FileName) (told : Option Told) (front part : List ℕ) (size : ℕ) → 0 < size → Begins name told front → TellsRead name (length front) size told (Ok part) → Continues name told front part
part_read name None front part size some begins e = tt
part_read name (Some told) front part size some begins e = read_from (bytes_of name told) front begins.0 part size some begins.1 e

nothing_left : (front rest : List ℕ) → [] ≡ front ++ rest → rest ≡ []
nothing_left [] rest e = sym e
nothing_left (x ∷ front) rest e = absurd cc

pub part_absent : (name : FileName) (told : Option Told) (front : List ℕ) → Begins name told front → TellsAbsent {T = List ℕ} name told (Err read.Absent) → Continues name told front []
part_absent name None front begins absent = tt
part_absent name (Some told) front begins absent =
    let empty : content name told ≡ [] = ap (λ (number : Option ℕ). unwrap_or (option_map (λ n. (file_at n told.state.files).read) number) []) absent in
    record { rest = begins.0; splits = begins.1; some = λ _. nothing_left front begins.0 (sym empty ∙ begins.1) }

pub begins_further : (name : FileName) (told : Option Told) (front part next : List ℕ) → Continues name told front part → next ≡ front ++ part → Begins name told next
begins_further name None front part next h e = tt
begins_further name (Some told) front part next h e = (h.rest, h.splits ∙ sym (append_assoc front part h.rest) ∙ ap (λ (l : List ℕ). l ++ h.rest) (sym e))

pub ends_there : (name : FileName) (told : Option Told) (front part : List ℕ) → Continues name told front part → part ≡ [] → IsContent name told front
ends_there name None front part h e = tt
ends_there name (Some told) front part h e = h.splits ∙ (λ i. front ++ (e i ++ h.some e i)) ∙ append-nil front

sized : (bytes : Option (List ℕ)) (size : ℕ) → option_map length bytes ≡ Some size → length (unwrap_or bytes []) ≡ size
sized None size e = absurd cc
sized (Some all) size e = cc

no_more : (front rest : List ℕ) → length (front ++ rest) ≤ length front → rest ≡ []
no_more front [] h = refl
no_more front (x ∷ rest) h = absurd (omega (arith, length-append front (x ∷ rest)))

pub all_begun : (name : FileName) (told : Option Told) (front : List ℕ) (size : ℕ) → TellsSize name told (Ok size) → Begins name told front → size ≤ length front → IsContent name told front
all_begun name None front size tells begins long = tt
all_begun name (Some told) front size tells begins long =
    let whole : length (content name told) ≡ size = sized (bytes_of name told) size tells in
    let none : begins.0 ≡ [] = no_more front begins.0 (omega (arith, whole, ap length begins.1, long)) in
    begins.1 ∙ ap (λ (l : List ℕ). front ++ l) none ∙ append-nil front
