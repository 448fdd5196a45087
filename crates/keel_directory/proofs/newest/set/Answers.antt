use Rattle.std.proofs.Common.{◌≡◌, ℕ, List, ap, ◌∙◌}
use Rattle.std.specs.Prelude.{insert}
use Rattle.keel_directory.specs.Answers.{PairList}
use Rattle.keel_directory.proofs.Placing.{spot, put_pair}
use Rattle.keel_directory.proofs.Mapping.{left, none_left, sets_delete, sets_put}
use Rattle.keel_directory.proofs.newest.set.Goals as goal

pub returns-in-Del : goal.returns-in-Del
returns-in-Del c = sets_delete c.args.row.now c.args.pairs.now.items c.take_out.new.pairs.items c.in-Del.is (c.take_out.ensures ∙ ap (λ (key : List ℕ). left key c.args.pairs.now.items) c.as_slice-key.ensures)

pub returns-in_ok-insert-in-Put : goal.returns-in_ok-insert-in-Put
returns-in_ok-insert-in-Put c =
    let key = c.args.row.now.key in
    let pairs : PairList = left key c.args.pairs.now.items in
    let put = put_pair key c.args.row.now.value pairs (none_left key c.args.pairs.now.items) in
    let taken : c.take_out.new.pairs.items ≡ pairs = c.take_out.ensures ∙ ap (λ (k : List ℕ). left k c.args.pairs.now.items) c.as_slice-key.ensures in
    let there : c.place_of-place.result ≡ spot key pairs = c.place_of-place.ensures.place ∙ (λ i. spot (c.as_slice-key.ensures i) ((c.as_slice.ensures.value ∙ taken) i)) in
    let parts : (c.in_ok-key-in-Put.key, c.in_ok-value-in-Put.value) ≡ (key, c.args.row.now.value) = λ i. ((c.in_ok-key-in-Put.ensures ∙ c.as_slice-key.ensures) i, (c.in_ok-value-in-Put.ensures ∙ c.as_slice-in-Put.ensures) i) in
    sets_put c.args.row.now c.args.pairs.now.items c.insert.new.self.items c.in-Put.is (c.in_ok-insert-in-Put.ensures.items ∙ (λ i. insert (taken i) (there i) (parts i)) ∙ put)
