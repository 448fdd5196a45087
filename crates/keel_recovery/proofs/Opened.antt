-- An opening of a device that was left leaves a store that boots.
use Rattle.std.proofs.Common.{◌≡◌, ℕ, List, [], length, Option, Some, None, Ok, refl, sym, ap, subst, ◌∙◌}
use Rattle.std.specs.List.{AllByRecursion}
use Rattle.keel_base.specs.declared.op.Op.{Op}
use Rattle.keel_base.specs.Points.{Point}
use Rattle.keel_directory.specs.Reading.{Reading, StoreRead, new, held, refused, IsReading, HasPoint, all_rows}
use Rattle.keel_directory.specs.Sound.{IsSoundReading}
use Rattle.keel_directory.proofs.OneReading.{reading_one}
use Rattle.keel_disk.specs.Directory.{Named}
use Rattle.keel_disk.specs.Plain.{image_read}
use Rattle.keel_disk.specs.Told.{Told, TellsListing}
use Rattle.keel_machine.specs.Opening.{Found, IsFoundIn, IsFoundBy, continues, opened, ops_replayed, replayed_segments, tables_in}
use Rattle.keel_machine.specs.Resuming.{batches_in}
use Rattle.keel_machine.specs.States.{Story, entries_in, point_of}
use Rattle.keel_open.specs.Listed.{IsDirectory}
use Rattle.keel_open.specs.Stores.{IsReadBy, StoreTells, replay_in}
use Rattle.keel_open.proofs.Joining.{sound_is_directory}
use Rattle.keel_recovery.specs.BootCalls.{BootFacts}
use Rattle.keel_recovery.specs.Booting.{IsOldTable}
use Rattle.keel_recovery.specs.Machine.{OpeningBoots}
use Rattle.keel_recovery.specs.Readings.{AreLimited, batches_read}
use Rattle.keel_recovery.proofs.BootTaken.{just_taken}
use Rattle.keel_recovery.proofs.Found.{held_gives, same_held, has_map}
use Rattle.keel_recovery.proofs.Opening.{all_drawn, point_is, held_facts, new_facts}
use Rattle.keel_version.specs.Tables.{AreLevels, IsWithin}

-- ---- what was found

-- the facts of a store that was found, and its batches, which are those of the reading
record FactsOf (found : Found) (reading : Reading) (story : Story) : Type 0 where
  facts : BootFacts found.levels (batches_in (replayed_segments (ops_replayed found.store.batches.items) found.store.logs.items)) found.store.version.last_seq story
  batches : ops_replayed found.store.batches.items ≡ batches_read reading

module _ (image : Named (List ℕ)) (found : Found) (story : Story) (order : AreLevels found.store.version.tables) (within : IsWithin found.store.version)
    (tables : entries_in found.levels ≡ found.store.version.tables) (seq : found.point.seq ≡ found.store.last_seq) (point : point_of story ≡ found.point) where
  not_both : (f : StoreRead) (p : Point) → IsReading image new → IsReading image (held f p) → ⊥
  not_both f p a b = let e = reading_one image new (held f p) a b in cc

  facts_of : (reading : Reading) (manifest : Option ℕ) → IsReading image reading → AreLimited reading → HasPoint reading found.point → found.levels ≡ tables_in reading → IsSoundReading reading → IsReadBy image manifest found.store
      → FactsOf found reading story
  facts_of (refused refusal) manifest is limits has levels sound store = absurd has
  facts_of new None is limits has levels sound store = record {
    facts = new_facts image found story order within tables seq point levels store.base.version store.batches has;
    batches = ap ops_replayed store.batches;
  }
  facts_of new (Some number) is limits has levels sound store =
      let st = store.store in
      let made = has_map (all_rows st.store) in
      let at : Point = record { values = made.0; seq = found.store.last_seq } in
      absurd (not_both st.store at is (st.reads at made.1 refl))
  facts_of (held f p) None is limits has levels sound store = absurd (not_both f p store.reads is)
  facts_of (held f p) (Some number) is limits has levels sound store =
      let st = store.store in
      let made = has_map (all_rows st.store) in
      let at : Point = record { values = made.0; seq = found.store.last_seq } in
      let same : f ≡ st.store = same_held image f st.store p at is (st.reads at made.1 refl) in
      let replay : f.replay ≡ replay_in found.store = ap (λ (g : StoreRead). g.replay) same ∙ st.replay_is in
      let read : IsReading image (held f found.point) = subst (λ (q : Point). IsReading image (held f q)) (sym has) is in
      record {
        facts = held_facts image found story order within tables seq point f levels (ap (λ (g : StoreRead). g.version) same ∙ st.version) (ap (λ r. r.batches) replay) (ap (λ r. r.last) replay)
            sound limits (held_gives image f found.point read);
        batches = sym (ap (λ r. ops_replayed r.batches) replay);
      }

-- ---- the store that boots

no_batches : (ops : List (List Op)) (logs : List ℕ) → ops ≡ [] → replayed_segments ops logs ≡ []
no_batches ops logs e = ap (λ l. replayed_segments l logs) e

pub opening_boots : OpeningBoots
opening_boots s options found device told is a left =
    let state = told.state in
    let image = image_read state in
    let story = (opened options found s).story in
    let directory : IsDirectory state = sound_is_directory state left.one_to_one in
    let inside : IsFoundIn told found = (subst (λ (o : Option Told). IsFoundBy o found) is a.finds.read) directory in
    let store : IsReadBy image found.store.manifest found.store = (subst (λ (o : Option Told). StoreTells o (Ok found.store)) is a.cause) directory in
    let point : point_of story ≡ found.point = point_is (continues s.mode s.footing) s.story found.joined found.point a.finds.goes_on in
    let now = left.stands.now.1 in
    let sound : IsSoundReading inside.reading = subst IsSoundReading (reading_one image now.reading inside.reading now.is_read inside.is_read) now.sound in
    let limits = left.within.limits inside.reading inside.is_read in
    let facts = facts_of image found story a.finds.order a.finds.within a.finds.tables a.finds.seq point inside.reading found.store.manifest inside.is_read limits inside.has inside.levels sound store in
    let drawn = all_drawn told found.store.listing found.store.next_file left.one_to_one left.listed a.finds.next.over (subst (λ (o : Option Told). TellsListing o found.store.listing) is a.finds.listing) in
    let tables = subst (λ ts. AllByRecursion (IsOldTable (length state.files) state) ts) (sym inside.levels) (left.steady inside.reading inside.is_read) in
    record {
      bound = length state.files;
      booting = just_taken found.levels story found.store.next_file state left tables drawn;
      old = state;
      floor_within = left.floor_within;
      numbered = a.finds.next.positive;
      bare = λ count none. no_batches (ops_replayed found.store.batches.items) found.store.logs.items (facts.batches ∙ left.within.bare count none inside.reading inside.is_read);
      facts = facts.facts;
      runs = tt;
      none_active = refl;
      waits = tt;
      no_group = refl;
      no_flush = refl;
    }
