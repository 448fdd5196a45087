use Rattle.std.proofs.Common.{◌≡◌, ◌≤◌, ◌<◌, List, [], ◌∷◌, length, get_or, ap, sym, ◌∙◌, arith, codes}
use Rattle.std.specs.Bool.{IsTrue}
use Rattle.std.specs.Prelude.{◌↔◌}
use Rattle.std.specs.String.{string_bytes}
use Rattle.keel_cli.specs.Words.{IsPath}
use Rattle.std.proofs.lemmas.Slice.Eq.{bytes_eq-Decides}
use Rattle.keel_cli.proofs.words.read_words.Goals as goal

one : {X : Type 0} (xs : List X) (x : X) → 1 ≤ length xs → length xs < 2 → x ≡ get_or xs 0 x → xs ≡ x ∷ []
one [] x some few is = absurd (omega arith)
one (y ∷ []) x some few is = ap (λ v. v ∷ []) (sym is)
one (y ∷ z ∷ ys) x some few is = absurd (omega arith)

two : {X : Type 0} (xs : List X) (x y : X) → 2 ≤ length xs → length xs < 3 → x ≡ get_or xs 0 x → y ≡ get_or xs 1 y → xs ≡ x ∷ y ∷ []
two [] x y some few is is_second = absurd (omega arith)
two (v ∷ []) x y some few is is_second = absurd (omega arith)
two (v ∷ w ∷ []) x y some few is is_second = λ i. sym is i ∷ sym is_second i ∷ []
two (v ∷ w ∷ u ∷ xs) x y some few is is_second = absurd (omega arith)

pub returns-then-eq : goal.returns-then-eq
returns-then-eq c =
    let word = c.word-item.result in
    let items = sym c.as_slice.ensures.value ∙ one c.as_slice.result.now word c.in-len1.len_at_least c.in-len1.len_below c.word-item.is in
    let decides : IsTrue c.eq.result ↔ (string_bytes word ≡ codes "run") = rw (c.eq.ensures, c.as_str.ensures.value) (bytes_eq-Decides (string_bytes word) (codes "run")) in
    rw items (ap (λ bytes. bytes ∷ []) (decides.0 c.if-eq.true))

pub returns-else-eq : goal.returns-else-eq
returns-else-eq c =
    let word = c.word-item.result in
    let items = sym c.as_slice.ensures.value ∙ one c.as_slice.result.now word c.in-len1.len_at_least c.in-len1.len_below c.word-item.is in
    let decides : IsTrue c.eq.result ↔ (string_bytes word ≡ codes "run") = rw (c.eq.ensures, c.as_str.ensures.value) (bytes_eq-Decides (string_bytes word) (codes "run")) in
    let no = c.if-eq.false in
    rw items (λ run. let yes = decides.1 run in absurd cc)

pub returns-then-name_folder : goal.returns-then-name_folder
returns-then-name_folder c =
    let word = c.word-item-then-this-lt3.result in
    let path = c.path-item.result in
    let items = sym c.as_slice.ensures.value ∙ two c.as_slice.result.now word path c.in-len2.len_at_least c.in-len2.len_below c.word-item-then-this-lt3.is c.path-item.is in
    let named : (string_bytes word ≡ codes "dir") × IsPath (string_bytes path) = rw (c.as_str-in-len2.ensures.value, c.as_str-in-len2-2.ensures.value) at (c.name_folder.ensures.0 c.if-name_folder.true) in
    rw items (ap (λ bytes. bytes ∷ string_bytes path ∷ []) named.0, named.1)

pub returns-else-name_folder : goal.returns-else-name_folder
returns-else-name_folder c =
    let word = c.word-item-then-this-lt3.result in
    let path = c.path-item.result in
    let items = sym c.as_slice.ensures.value ∙ two c.as_slice.result.now word path c.in-len2.len_at_least c.in-len2.len_below c.word-item-then-this-lt3.is c.path-item.is in
    let named = rw (c.as_str-in-len2.ensures.value, c.as_str-in-len2-2.ensures.value) at c.name_folder.ensures in
    let no = c.if-name_folder.false in
    rw items (λ asks. let yes = named.1 asks in absurd cc)
