-- CURRENT names one manifest or none.
use Rattle.std.proofs.Common.{◌≡◌, ℕ, List, [], ◌∷◌, ◌++◌, sym, ◌∙◌}
use Rattle.std.proofs.lemmas.List.{append_cancel_right}
use Rattle.keel_base.specs.declared.file_name.FileName.{FileName}
use Rattle.keel_base.specs.declared.file_name.FileName.TheVariants.{Manifest}
use Rattle.keel_base.specs.Name.{IsName, printed}
use Rattle.keel_name.specs.Current.{NamesManifest}
use Rattle.keel_name.proofs.Spellings.{printed_injective}

-- a line that another name begins is no manifest's
pub another_name : (bytes front : List ℕ) (name : FileName) → bytes ≡ front ++ 10 ∷ [] → IsName name → front ≡ printed name
    → ((n : ℕ) → name ≡ Manifest n → ⊥) → (number : ℕ) → NamesManifest bytes number → ⊥
another_name bytes front name parts is spelled other number names =
    let same : front ≡ printed (Manifest number) = append_cancel_right front (printed (Manifest number)) (10 ∷ []) (sym parts ∙ names.0) in
    other number (printed_injective name (Manifest number) is names.1 (sym spelled ∙ same))

one_number : (a b : ℕ) → Manifest a ≡ Manifest b → a ≡ b
one_number a b same = cc

pub one_manifest : (bytes : List ℕ) (a b : ℕ) → NamesManifest bytes a → NamesManifest bytes b → a ≡ b
one_manifest bytes a b first second =
    let same : printed (Manifest a) ≡ printed (Manifest b) = append_cancel_right (printed (Manifest a)) (printed (Manifest b)) (10 ∷ []) (sym first.0 ∙ second.0) in
    one_number a b (printed_injective (Manifest a) (Manifest b) first.1 second.1 same)
