-- Of records that were written one behind the other, a plain image holds the first.
use Rattle.std.proofs.Common.{◌≡◌, ℕ, zero, suc, ◌+◌, ◌≤◌, List, [], ◌∷◌, ◌++◌, length, take, drop, None, refl, sym, ap, subst, ◌∙◌, arith}
use Rattle.std.proofs.lemmas.List.{take_at, take-append-drop, length-append, length-take}
use Rattle.keel_frag.specs.declared.record.LogRecord.{LogRecord}
use Rattle.keel_frag.specs.Pieces.{Progress, start, after_all}
use Rattle.keel_frag.specs.Reading.{AreLaidOn, IsWholeLog, AreRecords}
use Rattle.keel_frag.specs.Writing.{first_offset, record_bytes, records_bytes, records_at}
use Rattle.keel_frag.specs.Images.{IsImage, IsPlain, IsFrontOf, IsTornFrom, HoldsFirst, TornRecords}
use Rattle.keel_frag.proofs.Laying.{laid_on_longer}
use Rattle.keel_frag.proofs.Continuing.{making, going_on}
use Rattle.keel_frag.proofs.Torn.{torn}

take-records_at : (count offset : ℕ) (payloads : List (List ℕ)) → take count (records_at offset payloads) ≡ records_at offset (take count payloads)
unfolding records_at
take-records_at zero offset payloads = refl
take-records_at (suc count) offset [] = refl
take-records_at (suc count) offset (payload ∷ payloads) =
    let found : LogRecord = record { offset = first_offset offset; payload = payload } in
    ap (λ (l : List LogRecord). found ∷ l) (take-records_at count (offset + length (record_bytes offset payload)) payloads)

length-records_at : (offset : ℕ) (payloads : List (List ℕ)) → length (records_at offset payloads) ≡ length payloads
unfolding records_at
length-records_at offset [] = refl
length-records_at offset (payload ∷ payloads) = ap suc (length-records_at (offset + length (record_bytes offset payload)) payloads)

module _ (payloads : List (List ℕ)) where
  -- the first of the records, as a log of their own
  first_laid : (written : ℕ) → (h : IsWholeLog (records_bytes 0 (take written payloads)) (records_at 0 (take written payloads))) → AreLaidOn (records_bytes 0 payloads) h.pieces
  first_laid written h =
      let front = records_bytes 0 (take written payloads) in
      let rest = records_bytes (0 + length front) (drop written payloads) in
      let whole : front ++ rest ≡ records_bytes 0 payloads = sym (going_on 0 (take written payloads) (drop written payloads)) ∙ ap (records_bytes 0) (take-append-drop written payloads) in
      subst (λ (b : List ℕ). AreLaidOn b h.pieces) whole (laid_on_longer front rest h.pieces h.laid)

  pub firm_written : (firm written : ℕ) (found : List LogRecord) → IsTornFrom firm (records_bytes 0 payloads) (records_at 0 payloads) found
      → written ≤ length payloads → length (records_bytes 0 (take written payloads)) ≤ firm → written ≤ length found
  firm_written firm written found t within fits =
      let h = making (take written payloads) in
      let offset : (after_all start h.pieces).offset ≡ length (records_bytes 0 (take written payloads)) = ap (λ (p : Progress). p.offset) h.says in
      let done : (after_all start h.pieces).done ≡ records_at 0 (take written payloads) = ap (λ (p : Progress). p.done) h.says in
      let front : IsFrontOf (after_all start h.pieces).done found = t.firm_found h.pieces (first_laid written h) (omega arith) in
      omega (arith, ap length front.1, length-append (after_all start h.pieces).done front.0, ap length done, length-records_at 0 (take written payloads), length-take written payloads)

  pub first_held : (firm : ℕ) (image : List ℕ) (found : List LogRecord) (end : ℕ)
      → IsImage firm (records_bytes 0 payloads) image → IsPlain (records_bytes 0 payloads) image → AreRecords image found end → HoldsFirst firm payloads found
  first_held firm image found end is_image plain records =
      let read : Progress = record { offset = length (records_bytes 0 payloads); done = records_at 0 payloads; begun = None } in
      let t = torn firm (records_bytes 0 payloads) image read found end (making payloads) refl is_image plain records in
      let front : IsFrontOf found (records_at 0 payloads) = t.meant_all in
      record {
        count = length found;
        within = omega (arith, ap length front.1, length-append found front.0, length-records_at 0 payloads);
        found_are = sym (take_at found front.0 (length found) refl) ∙ ap (take (length found)) (sym front.1) ∙ take-records_at (length found) 0 payloads;
        firm_found = λ written within fits. firm_written firm written found t within fits;
      }

pub torn_records : TornRecords
torn_records firm payloads meant image found end e is_image plain records =
    first_held payloads firm image found end (subst (λ (m : List ℕ). IsImage firm m image) e is_image) (subst (λ (m : List ℕ). IsPlain m image) e plain) records
