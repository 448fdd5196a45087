-- Which logs are read, which table is named, and which file.
use Rattle.std.proofs.Common.{◌≡◌, ℕ, ◌<◌, ◌≤◌, Bool, true, false, cond, eqb, ltb, List, [], ◌∷◌, Option, Some, None, refl, sym, ap, subst, ◌∙◌, inl, inr, arith}
use Rattle.std.specs.Prelude.{MatchOption}
use Rattle.std.specs.List.{AllByRecursion}
use Rattle.std.proofs.lemmas.Bool.{cases_order, ltb-true, ltb-false, lt-ltb, le-ltb, eq-eqb, ne_eqb, eqb-true}
use Rattle.std.specs.declared.cmp.Ordering.{Ordering}
use Rattle.std.specs.declared.cmp.Ordering.TheVariants.{Less, Equal, Greater}
use Rattle.std.specs.Ordering.{is_lt, ordering_reverse}
use Rattle.std.proofs.lemmas.Cmp.{nat_list_cmp_total}
use Rattle.std.proofs.lemmas.Map.Lookups.{exact_bytes}
use Rattle.keel_base.specs.Keys.{key_cmp, key_lt}
use Rattle.keel_name.proofs.Listings.{in_order}
use Rattle.keel_base.proofs.KeyOrder.{lt_then_not_lt}
use Rattle.keel_base.specs.declared.file_name.FileName.{FileName}
use Rattle.keel_base.specs.declared.file_name.FileName.TheVariants.{Log, Table, Trash, Manifest, Current, Temp}
use Rattle.keel_base.specs.Name.{printed, listed_before}
use Rattle.keel_disk.specs.Directory.{Named, find}
use Rattle.keel_edit.specs.declared.edit.Added.{Added}
use Rattle.keel_directory.specs.declared.logs.LogFile.{LogFile}
use Rattle.keel_directory.specs.TableFiles.{lesser, least}
use Rattle.keel_directory.specs.Replays.{put_log, with_log, logs_from}
use Rattle.keel_directory.specs.Reading.{is_used, earlier, first_used}
use Rattle.keel_directory.specs.Laws.{AreNamedOnce, log_of, some_bytes, Rise, LogsAreThose, IsOneOf, LeastIsLeast, NamesUsed, FirstIsFirst}

-- ---- a log put at its place

same_test : {A : Type 0} (b c : Bool) (x y z : A) → b ≡ c → cond b x z ≡ cond b x (cond c y z)
same_test true c x y z e = refl
same_test false true x y z e = absurd cc
same_test false false x y z e = refl

swapped : {A : Type 0} (b c : Bool) (x y z : A) → (b ≡ true → c ≡ true → ⊥) → cond c y (cond b x z) ≡ cond b x (cond c y z)
swapped true true x y z apart = absurd (apart refl refl)
swapped true false x y z apart = refl
swapped false c x y z apart = refl

-- under its number the log is found, and under others what was
found_put : (n : ℕ) (log : LogFile) (logs : List LogFile) → log_of n (put_log log logs) ≡ cond (eqb log.number n) (Some log.bytes) (log_of n logs)
found_put n log [] = refl
found_put n log (other ∷ logs) =
    elim (cases_order log.number other.number) [
      | inl same ↦ rw (le-ltb log.number other.number (omega (arith, same)), eq-eqb log.number other.number same)
          (same_test (eqb log.number n) (eqb other.number n) (Some log.bytes) (Some other.bytes) (log_of n logs) (ap (λ (m : ℕ). eqb m n) same))
      | inr (inl below) ↦ rw (lt-ltb log.number other.number below) refl
      | inr (inr above) ↦ rw (le-ltb log.number other.number (omega (arith, above)), ne_eqb log.number other.number (λ e. omega (arith, above, e)))
          (ap (λ (found : Option (List ℕ)). cond (eqb other.number n) (Some other.bytes) found) (found_put n log logs)
          ∙ swapped (eqb log.number n) (eqb other.number n) (Some log.bytes) (Some other.bytes) (log_of n logs) (λ a b. omega (arith, above, eqb-true log.number n a, eqb-true other.number n b)))
    ]

abbrev Over : ℕ → List LogFile → Type 0
Over k logs = AllByRecursion (λ other. k < other.number) logs

over_more : (k m : ℕ) (logs : List LogFile) → k < m → Over m logs → Over k logs
over_more k m [] lt over = tt
over_more k m (log ∷ logs) lt over = (omega (arith, lt, over.0), over_more k m logs lt over.1)

over_put : (k : ℕ) (log : LogFile) (logs : List LogFile) → k < log.number → Over k logs → Over k (put_log log logs)
over_put k log [] lt over = (lt, tt)
over_put k log (other ∷ logs) lt over =
    elim (cases_order log.number other.number) [
      | inl same ↦ rw (le-ltb log.number other.number (omega (arith, same)), eq-eqb log.number other.number same) (lt, over.1)
      | inr (inl below) ↦ rw (lt-ltb log.number other.number below) (lt, over)
      | inr (inr above) ↦ rw (le-ltb log.number other.number (omega (arith, above)), ne_eqb log.number other.number (λ e. omega (arith, above, e))) (over.0, over_put k log logs lt over.1)
    ]

rises_put : (log : LogFile) (logs : List LogFile) → Rise logs → Rise (put_log log logs)
rises_put log [] rise = (tt, tt)
rises_put log (other ∷ logs) rise =
    elim (cases_order log.number other.number) [
      | inl same ↦ rw (le-ltb log.number other.number (omega (arith, same)), eq-eqb log.number other.number same)
          (subst (λ (m : ℕ). Over m logs) (sym same) rise.0, rise.1)
      | inr (inl below) ↦ rw (lt-ltb log.number other.number below) ((below, over_more log.number other.number logs below rise.0), rise)
      | inr (inr above) ↦ rw (le-ltb log.number other.number (omega (arith, above)), ne_eqb log.number other.number (λ e. omega (arith, above, e)))
          (over_put other.number log logs above rise.0, rises_put log logs rise.1)
    ]

-- ---- the logs of a directory

rise_if : (c : Bool) (logs others : List LogFile) → Rise logs → Rise others → Rise (cond c logs others)
rise_if true logs others rise other_rise = rise
rise_if false logs others rise other_rise = other_rise

rises_with : (least : ℕ) (file : FileName × List ℕ) (logs : List LogFile) → Rise logs → Rise (with_log least file logs)
rises_with least (Log n, []) logs rise = rise
rises_with least (Log n, b ∷ bytes) logs rise = rise_if (ltb n least) logs _ rise (rises_put (record { number = n; bytes = b ∷ bytes }) logs rise)
rises_with least (Table n, bytes) logs rise = rise
rises_with least (Trash n, bytes) logs rise = rise
rises_with least (Manifest n, bytes) logs rise = rise
rises_with least (Current, bytes) logs rise = rise
rises_with least (Temp n, bytes) logs rise = rise

rises : (least : ℕ) (image : Named (List ℕ)) → Rise (logs_from least image)
rises least [] = tt
rises least (file ∷ image) = rises_with least file (logs_from least image) (rises least image)

-- the bytes of a log's file from the least number on, where it has any
abbrev wanted : ℕ → ℕ → Option (List ℕ) → Option (List ℕ)
wanted n least found = cond (ltb n least) None (some_bytes found)

with_bytes : (c b : Bool) (n least m x : ℕ) (xs : List ℕ) (logs : List LogFile) (found : Option (List ℕ)) → ltb m least ≡ c → eqb m n ≡ b → (eqb m n ≡ true → found ≡ None) → log_of n logs ≡ wanted n least found
    → log_of n (cond c logs (put_log (record { number = m; bytes = x ∷ xs }) logs)) ≡ wanted n least (cond b (Some (x ∷ xs)) found)
with_bytes true true n least m x xs logs found low same none h =
    let low_too : ltb n least ≡ true = ap (λ (k : ℕ). ltb k least) (sym (eqb-true m n same)) ∙ low in
    h ∙ rw low_too refl
with_bytes true false n least m x xs logs found low same none h = h
with_bytes false true n least m x xs logs found low same none h =
    let high : ltb n least ≡ false = ap (λ (k : ℕ). ltb k least) (sym (eqb-true m n same)) ∙ low in
    found_put n (record { number = m; bytes = x ∷ xs }) logs ∙ rw (same, high) refl
with_bytes false false n least m x xs logs found low same none h = found_put n (record { number = m; bytes = x ∷ xs }) logs ∙ rw same h

without_bytes : (b : Bool) (n least m : ℕ) (logs : List LogFile) (found : Option (List ℕ)) → eqb m n ≡ b → (eqb m n ≡ true → found ≡ None) → log_of n logs ≡ wanted n least found
    → log_of n logs ≡ wanted n least (cond b (Some []) found)
without_bytes true n least m logs found same none h = h ∙ ap (wanted n least) (none same)
without_bytes false n least m logs found same none h = h

found_with : (n least : ℕ) (file : FileName × List ℕ) (logs : List LogFile) (image : Named (List ℕ)) → find file.0 image ≡ None → log_of n logs ≡ wanted n least (find (Log n) image)
    → log_of n (with_log least file logs) ≡ wanted n least (find (Log n) (file ∷ image))
found_with n least (Log m, []) logs image once h =
    without_bytes (eqb m n) n least m logs (find (Log n) image) refl (λ e. subst (λ (k : ℕ). find (Log k) image ≡ None) (eqb-true m n e) once) h
found_with n least (Log m, x ∷ xs) logs image once h =
    with_bytes (ltb m least) (eqb m n) n least m x xs logs (find (Log n) image) refl refl (λ e. subst (λ (k : ℕ). find (Log k) image ≡ None) (eqb-true m n e) once) h
found_with n least (Table m, bytes) logs image once h = h
found_with n least (Trash m, bytes) logs image once h = h
found_with n least (Manifest m, bytes) logs image once h = h
found_with n least (Current, bytes) logs image once h = h
found_with n least (Temp m, bytes) logs image once h = h

abbrev no_bytes : Option (List ℕ)
no_bytes = None

never : (b : Bool) → no_bytes ≡ cond b no_bytes no_bytes
never true = refl
never false = refl

found_all : (n least : ℕ) (image : Named (List ℕ)) → AreNamedOnce image → log_of n (logs_from least image) ≡ wanted n least (find (Log n) image)
found_all n least [] once = never (ltb n least)
found_all n least (file ∷ image) once = found_with n least file (logs_from least image) image once.0 (found_all n least image once.1)

pub logs_those : LogsAreThose
logs_those least image once = (rises least image, λ n. found_all n least image once)

-- ---- the least table

each_more : {A : Type 0} {P Q : A → Type 0} → ((x : A) → P x → Q x) → (xs : List A) → AllByRecursion P xs → AllByRecursion Q xs
each_more f [] h = tt
each_more f (x ∷ xs) h = (f x h.0, each_more f xs h.1)

never_both : (b : Bool) → b ≡ false → b ≡ true → ⊥
never_both true is_false is_true = cc
never_both false is_false is_true = cc

-- the least of these tables, where one is found
abbrev IsLeast : (Added → Bool) → List Added → Option Added → Type 0
IsLeast finds tables found =
    MatchOption found (AllByRecursion (λ t. finds t ≡ false) tables) (λ x. IsOneOf tables x × (finds x ≡ true) × AllByRecursion (λ t. finds t ≡ true → x.number ≤ t.number) tables)

of_two : (c : Bool) (finds : Added → Bool) (t x : Added) (tables : List Added) → ltb x.number t.number ≡ c → finds t ≡ true → IsLeast finds tables (Some x) → IsLeast finds (t ∷ tables) (cond c (Some x) (Some t))
of_two true finds t x tables below is h = (inr h.0, h.1, (λ e. omega (arith, ltb-true x.number t.number below), h.2))
of_two false finds t x tables below is h =
    (inl refl, is, (λ e. omega arith, each_more (λ other le e. omega (arith, le e, ltb-false x.number t.number below)) tables h.2))

with_table : (b : Bool) (finds : Added → Bool) (t : Added) (tables : List Added) (found : Option Added) → finds t ≡ b → IsLeast finds tables found → IsLeast finds (t ∷ tables) (cond b (lesser t found) found)
with_table true finds t tables None is h = (inl refl, is, (λ e. omega arith, each_more (λ other not_found e. absurd (never_both (finds other) not_found e)) tables h))
with_table true finds t tables (Some x) is h = of_two (ltb x.number t.number) finds t x tables refl is h
with_table false finds t tables None is h = (is, h)
with_table false finds t tables (Some x) is h = (inr h.0, h.1, (λ e. absurd (never_both (finds t) is e), h.2))

pub least_least : LeastIsLeast
least_least finds [] = tt
least_least finds (t ∷ tables) = with_table (finds t) finds t tables (least finds tables) refl (least_least finds tables)

-- ---- the first file in use

greater : (o : Ordering) → is_lt o ≡ false → is_lt (ordering_reverse o) ≡ false → o ≡ Equal
greater Less not_less not_over = cc
greater Equal not_less not_over = refl
greater Greater not_less not_over = cc

either : (b : Bool) → (b ≡ true → ⊥) → b ≡ false
either true h = absurd (h refl)
either false h = refl

-- where a key isn't below a second, and this one isn't below a third, the first isn't below the third
not_below : (first second third : List ℕ) → key_lt first second ≡ false → key_lt second third ≡ false → key_lt first third ≡ false
not_below first second third a b =
    either (key_lt first third) (λ below.
    let back : key_lt third second ≡ false = lt_then_not_lt first third second below a in
    let same : third ≡ second = exact_bytes third second (greater (key_cmp third second) back (ap is_lt (sym (nat_list_cmp_total.antisymm second third)) ∙ b)) in
    never_both (key_lt first second) a (subst (λ (key : List ℕ). key_lt first key ≡ true) same below))

-- the first of the files in use, where one is
abbrev IsFirst : Named (List ℕ) → Option FileName → Type 0
IsFirst image found =
    MatchOption found (AllByRecursion (λ file. is_used file ≡ false) image) (λ name. NamesUsed image name × AllByRecursion (λ file. is_used file ≡ true → listed_before file.0 name ≡ false) image)

of_two_names : (c : Bool) (file : FileName × List ℕ) (name : FileName) (image : Named (List ℕ)) → listed_before name file.0 ≡ c → is_used file ≡ true → IsFirst image (Some name)
    → IsFirst (file ∷ image) (cond c (Some name) (Some file.0))
of_two_names true file name image before is h = (inr h.0, (λ e. either (listed_before file.0 name) (λ behind. never_both (listed_before file.0 file.0) (in_order.apart file.0) (in_order.onward file.0 name file.0 behind before)), h.1))
of_two_names false file name image before is h =
    (inl (refl, is), (λ e. in_order.apart file.0, each_more (λ other not_before e. not_below (printed other.0) (printed name) (printed file.0) (not_before e) before) image h.1))

with_file : (b : Bool) (file : FileName × List ℕ) (image : Named (List ℕ)) (found : Option FileName) → is_used file ≡ b → IsFirst image found → IsFirst (file ∷ image) (cond b (earlier file.0 found) found)
with_file true file image None is h = (inl (refl, is), (λ e. in_order.apart file.0, each_more (λ other not_used e. absurd (never_both (is_used other) not_used e)) image h))
with_file true file image (Some name) is h = of_two_names (listed_before name file.0) file name image refl is h
with_file false file image None is h = (is, h)
with_file false file image (Some name) is h = (inr h.0, (λ e. absurd (never_both (is_used file) is e), h.1))

pub first_first : FirstIsFirst
first_first [] = tt
first_first (file ∷ image) = with_file (is_used file) file image (first_used image) refl (first_first image)
