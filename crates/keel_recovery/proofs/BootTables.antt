-- The calls of a boot that make its tables.
use Rattle.std.proofs.Common.{◌≡◌, ℕ, ◌+◌, ◌≤◌, ◌<◌, true, false, List, [], ◌∷◌, ◌++◌, length, map, Some, refl, sym, ap, subst, ◌∙◌, arith, append_assoc, append-nil, eqb, eqb-true}
use Rattle.std.specs.List.{AllByRecursion, flat_map}
use Rattle.std.proofs.Math.Seq.{take-length}
use Rattle.std.proofs.Common.{get_or-set_same}
use Rattle.keel_disk.specs.State.{directory_read}
use Rattle.keel_disk.proofs.Operating.{is_below}
use Rattle.keel_disk.proofs.Steadily.{read_own}
use Rattle.keel_base.specs.declared.file_name.FileName.{FileName}
use Rattle.keel_base.specs.declared.file_name.FileName.TheVariants.{Table}
use Rattle.keel_base.specs.declared.row.Row.{Row}
use Rattle.keel_base.specs.Name.{name_eq}
use Rattle.keel_disk.specs.declared.state.File.{File}
use Rattle.keel_disk.specs.State.{State as Disk, file_at, file_of, new_file}
use Rattle.keel_disk.specs.Step.{extended, synced, with_file}
use Rattle.keel_disk.specs.Steady.{IsGoing, IsHeld}
use Rattle.keel_disk.specs.Sound.{IsOneToOne}
use Rattle.keel_edit.specs.declared.edit.Added.{Added}
use Rattle.keel_draft.specs.Drafts.{Draft, bytes_in, pieces_in}
use Rattle.keel_resume.specs.Plans.{latest}
use Rattle.keel_table.specs.Spelling.{block_bytes, blocks_bytes}
use Rattle.keel_recovery.specs.BootCalls.{AreRising, AreOver, IsMade, IsBeingMade}

-- ---- numbers

pub all_less : (numbers : List ℕ) (next : ℕ) → AreRising numbers next → AllByRecursion (λ (number : ℕ). number < next) numbers
all_less [] next rising = tt
all_less (number ∷ numbers) next rising = (rising.1, all_less numbers next rising.3)

all_and_one : {A : Type 0} (P : A → Type 0) (xs : List A) (x : A) → AllByRecursion P xs → P x → AllByRecursion P (xs ++ x ∷ [])
all_and_one P [] x all is = (is, tt)
all_and_one P (y ∷ xs) x all is = (all.0, all_and_one P xs x all.1 is)

-- a number that is drawn next is over those that were
pub rising_more : (numbers : List ℕ) (next : ℕ) → 1 ≤ next → AreRising numbers next → AreRising (numbers ++ next ∷ []) (next + 1)
rising_more [] next some rising = (some, omega arith, tt, tt)
rising_more (number ∷ numbers) next some rising =
    (rising.0, omega (arith, rising.1), all_and_one (λ later. number < later) numbers next rising.2 rising.1, rising_more numbers next some rising.3)

pub rising_on : (numbers : List ℕ) (next more : ℕ) → next ≤ more → AreRising numbers next → AreRising numbers more
rising_on [] next more le rising = tt
rising_on (number ∷ numbers) next more le rising = (rising.0, omega (arith, rising.1, le), rising.2, rising_on numbers next more le rising.3)

last_of : {A : Type 0} (xs : List A) (x : A) (P : A → Type 0) → AllByRecursion P (xs ++ x ∷ []) → P x
last_of [] x P all = all.0
last_of (y ∷ xs) x P all = last_of xs x P all.1

-- all before the last are below it
pub below_last : (numbers : List ℕ) (last next : ℕ) → AreRising (numbers ++ last ∷ []) next → AllByRecursion (λ (number : ℕ). number < last) numbers
below_last [] last next rising = tt
below_last (number ∷ numbers) last next rising = (last_of numbers last (λ later. number < later) rising.2, below_last numbers last next rising.3)

pub over_more : (live : List Added) (numbers : List ℕ) (next : ℕ) → AllByRecursion (λ (table : Added). table.number < next) live → AreOver live numbers → AreOver live (numbers ++ next ∷ [])
over_more [] numbers next less over = tt
over_more (table ∷ live) numbers next less over = (all_and_one (λ number. table.number < number) numbers next over.0 less.0, over_more live numbers next less.1 over.1)

pub latest_last : (numbers : List ℕ) (last : ℕ) → latest (numbers ++ last ∷ []) ≡ last
latest_last [] last = refl
latest_last (number ∷ []) last = refl
latest_last (number ∷ next ∷ numbers) last = latest_last (next ∷ numbers) last

-- ---- names

pub table_differs : (n m : ℕ) → n < m → name_eq (Table m) (Table n) ≡ false
table_differs n m less =
    elim (eqb m n) as (λ b. eqb m n ≡ b → b ≡ false) [
      | true ↦ λ same. absurd (omega (arith, less, eqb-true m n same))
      | false ↦ λ differs. refl
    ] refl

pub tables_apart : (numbers : List ℕ) (m : ℕ) → AllByRecursion (λ (number : ℕ). number < m) numbers → AllByRecursion (λ (number : ℕ). name_eq (Table m) (Table number) ≡ false) numbers
tables_apart [] m less = tt
tables_apart (number ∷ numbers) m less = (table_differs number m less.0, tables_apart numbers m less.1)

-- ---- pieces

pub joined_more : (pieces : List (List ℕ)) (piece : List ℕ) → flat_map (λ (p : List ℕ). p) (pieces ++ piece ∷ []) ≡ flat_map (λ (p : List ℕ). p) pieces ++ piece
joined_more [] piece = append-nil piece
joined_more (first ∷ pieces) piece = ap (λ l. first ++ l) (joined_more pieces piece) ∙ sym (append_assoc first (flat_map (λ (p : List ℕ). p) pieces) piece)

blocks_joined : (blocks : List (List Row)) (end : List ℕ) → flat_map (λ (p : List ℕ). p) (map block_bytes blocks ++ end ∷ []) ≡ blocks_bytes blocks ++ end
blocks_joined [] end = append-nil end
blocks_joined (block ∷ blocks) end = ap (λ l. block_bytes block ++ l) (blocks_joined blocks end) ∙ sym (append_assoc (block_bytes block) (blocks_bytes blocks) end)

-- the pieces one behind the other are the table's file
pub pieces_joined : (draft : Draft) → flat_map (λ (p : List ℕ). p) (pieces_in draft) ≡ bytes_in draft
pieces_joined draft = blocks_joined draft.blocks _

-- the file of a name that is there is changed
pub named_changed : (name : FileName) (file : ℕ) (change : File → File) (state : Disk) → IsOneToOne state → file_of name state ≡ Some file
    → file_at file (with_file file change state).files ≡ change (file_at file state.files)
named_changed name file change state one named =
    get_or-set_same state.files file (change (file_at file state.files)) new_file (is_below (length state.files) name file (directory_read state) (read_own state one) named)

synced_clean : (file : File) → file.spoilt ≡ false → synced file ≡ record file { firm = length file.meant }
synced_clean file clean = rw clean refl

pub held_synced : (file : File) (bytes : List ℕ) → file.meant ≡ bytes → IsGoing file → IsHeld (synced file) bytes
held_synced file bytes meant going =
    subst (λ (f : File). IsHeld f bytes) (sym (synced_clean file going.not_spoilt)) (record { meant = meant; firm = ap length meant; read = going.read ∙ meant })

-- ---- the file that is being made

module _ (bound : ℕ) (name : FileName) (given : List ℕ) (state : Disk) (one : IsOneToOne state) (being : IsBeingMade bound name given state) where
  at_changed : (change : File → File) → file_at being.file (with_file being.file change state).files ≡ change (file_at being.file state.files)
  at_changed change = named_changed name being.file change state one being.present.named

  -- it has further bytes
  pub being_more : (bytes : List ℕ) (after : Disk) → after ≡ with_file being.file (extended bytes (length bytes)) state → IsBeingMade bound name (given ++ bytes) after
  being_more bytes after is = subst (IsBeingMade bound name (given ++ bytes)) (sym is) (record {
    file = being.file;
    present = record { named = being.present.named; not_cut = being.present.not_cut };
    newer = being.newer;
    no_log = being.no_log;
    meant = ap (λ (f : File). f.meant) (at_changed (extended bytes (length bytes))) ∙ ap (λ m. m ++ bytes) being.meant;
    going = subst IsGoing (sym (at_changed (extended bytes (length bytes)))) (record {
      not_spoilt = being.going.not_spoilt;
      read = ap (λ r. (file_at being.file state.files).read ++ r) (take-length bytes) ∙ ap (λ r. r ++ bytes) being.going.read;
    });
  })

  -- it is firm in whole
  pub being_held : (bytes : List ℕ) (after : Disk) → given ≡ bytes → after ≡ with_file being.file synced state → IsMade bound name bytes after
  being_held bytes after all is = subst (IsMade bound name bytes) (sym is) (record {
    file = being.file;
    present = record { named = being.present.named; not_cut = being.present.not_cut };
    newer = being.newer;
    held = subst (λ (f : File). IsHeld f bytes) (sym (at_changed synced)) (held_synced (file_at being.file state.files) bytes (being.meant ∙ all) being.going);
    clean = ap (λ (f : File). f.spoilt) (at_changed synced ∙ synced_clean (file_at being.file state.files) being.going.not_spoilt) ∙ being.going.not_spoilt;
  })
