-- The records of a log's file, behind calls on it.
use Rattle.std.proofs.Common.{◌≡◌, ℕ, ◌+◌, ◌≤◌, false, List, ◌++◌, length, take, refl, sym, ap, subst, ◌∙◌, arith, take_all}
use Rattle.std.proofs.lemmas.List.{length-append, take-append-le}
use Rattle.keel_base.specs.declared.op.Op.{Op}
use Rattle.keel_batch.specs.Batches.{payloads_behind}
use Rattle.keel_disk.specs.declared.state.File.{File}
use Rattle.keel_disk.specs.Step.{extended, spoiled, synced}
use Rattle.keel_disk.specs.Steady.{IsGoing, IsFirmWhole}
use Rattle.keel_frag.specs.Writing.{records_bytes}
use Rattle.keel_frag.proofs.Continuing.{going_on}
use Rattle.keel_draft.specs.Drafts.{count_ops}
use Rattle.keel_recovery.specs.Chains.{payloads, size_of_first, HoldsRecords}
use Rattle.keel_recovery.proofs.Numbering.{payloads_append, payloads_length}
use Rattle.keel_recovery.proofs.Passing.{take_length}

pub records_spoiled : (lasting shown : ℕ) (payloads : List (List ℕ)) (file : File) → HoldsRecords lasting shown payloads file → HoldsRecords lasting shown payloads (spoiled file)
records_spoiled lasting shown payloads file h = record { meant_is = h.meant_is; firm_to = h.firm_to; read_to = h.read_to }

pub same_front : (count : ℕ) (payloads more : List (List ℕ)) → count ≤ length payloads → size_of_first count (payloads ++ more) ≡ size_of_first count payloads
same_front count payloads more within = ap (λ (l : List (List ℕ)). length (records_bytes 0 l)) (take-append-le count payloads more within)

-- bytes of further records were handed in, and so many of them are read
pub records_grown : (lasting shown size kept last : ℕ) (old more : List (List Op)) (bytes : List ℕ) (file : File) → lasting ≤ length old → shown ≤ length old
    → HoldsRecords lasting shown (payloads_behind last old) file → IsGoing file → length file.meant ≡ size → bytes ≡ records_bytes size (payloads_behind (last + count_ops old) more)
    → HoldsRecords lasting shown (payloads_behind last (old ++ more)) (extended bytes kept file)
records_grown lasting shown size kept last old more bytes file few_firm few_read h going size_is bytes_are =
    let first = payloads_behind last old in
    let next = payloads_behind (last + count_ops old) more in
    let all : payloads_behind last (old ++ more) ≡ first ++ next = payloads_append last old more in
    let many : length first ≡ length old = payloads_length last old in
    let place : size ≡ 0 + length (records_bytes 0 first) = omega (arith, size_is, ap length h.meant_is) in
    record {
      meant_is = (λ i. h.meant_is i ++ (bytes_are ∙ ap (λ (n : ℕ). records_bytes n next) place) i) ∙ sym (going_on 0 first next) ∙ ap (records_bytes 0) (sym all);
      firm_to = omega (arith, ap (size_of_first lasting) all, same_front lasting first next (omega (arith, many, few_firm)), h.firm_to);
      read_to = omega (arith, ap (size_of_first shown) all, same_front shown first next (omega (arith, many, few_read)), h.read_to, length-append file.read (take kept bytes));
    }

pub going_grown : (bytes : List ℕ) (file : File) → IsGoing file → IsGoing (extended bytes (length bytes) file)
going_grown bytes file going = record {
  not_spoilt = going.not_spoilt;
  read = (λ i. going.read i ++ take_all (length bytes) bytes (omega arith) i);
}

pub records_read : (lasting shown more : ℕ) (payloads : List (List ℕ)) (file : File) → HoldsRecords lasting shown payloads file → IsGoing file → HoldsRecords lasting more payloads file
records_read lasting shown more payloads file h going = record {
  meant_is = h.meant_is;
  firm_to = h.firm_to;
  read_to = omega (arith, ap length going.read, ap length h.meant_is, take_length more payloads);
}

pub records_synced : (lasting shown firm more : ℕ) (payloads : List (List ℕ)) (file : File) → HoldsRecords lasting shown payloads file → IsGoing file
    → HoldsRecords firm more payloads (synced file) × IsGoing (synced file) × (length (synced file).meant ≡ length file.meant)
records_synced lasting shown firm more payloads file h going =
    let made : File = record file { firm = length file.meant } in
    let is : synced file ≡ made = synced_is file going.not_spoilt in
    let held : HoldsRecords firm more payloads made = record {
      meant_is = h.meant_is;
      firm_to = omega (arith, ap length h.meant_is, take_length firm payloads);
      read_to = omega (arith, ap length going.read, ap length h.meant_is, take_length more payloads);
    } in
    let goes : IsGoing made = record { not_spoilt = going.not_spoilt; read = going.read } in
    subst (λ (f : File). HoldsRecords firm more payloads f × IsGoing f × (length f.meant ≡ length file.meant)) (sym is) (held, goes, refl)
  where
    synced_is : (f : File) → f.spoilt ≡ false → synced f ≡ record f { firm = length f.meant }
    synced_is f sound = rw sound refl

-- a file that goes is firm in whole behind its sync
pub synced_whole : (file : File) → IsGoing file → IsFirmWhole (synced file)
synced_whole file going =
    subst IsFirmWhole (sym (is file going.not_spoilt)) (record { meant = refl; firm = refl; read = going.read })
  where
    is : (f : File) → f.spoilt ≡ false → synced f ≡ record f { firm = length f.meant }
    is f sound = rw sound refl
