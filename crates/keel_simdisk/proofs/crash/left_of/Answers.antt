use Rattle.std.proofs.Common.{◌≡◌, ℕ, ◌+◌, ◌%◌, List, ◌∷◌, ◌++◌, [], length, take, sym, ◌∙◌, ap, arith}
use Rattle.std.proofs.lemmas.List.{append-nil, append_assoc}
use Rattle.keel_simdisk.specs.Crash.{garbage}
use Rattle.keel_simdisk.proofs.Leaving.{garbage_more, next_value, left_whole}
use Rattle.keel_simdisk.proofs.crash.left_of.Goals as goal

pub loop-i-init : goal.loop-i-init
loop-i-init c = record {
  value_is = omega arith;
  bytes_are = c.in_ok-bytes.ensures ∙ ap (λ (l : List ℕ). take (c.args.file.now.firm + c.min.result) l) c.as_slice-meant.ensures ∙ sym (append-nil _);
}

pub loop-i-preserved : goal.loop-i-preserved
loop-i-preserved c =
    let front = take (c.args.file.now.firm + c.min.result) c.args.file.now.meant in
    let seed = c.args.pick.seed in
    let i = c.loop-i.i in
    let more : c.extend.new.self ≡ c.loop-i.bytes ++ c.loop-i.value ∷ [] = c.in_ok-extend.ensures.ok in
    record {
      value_is = ap (λ v. (v + 1) % 256) c.loop-i.invariant.value_is ∙ next_value seed i;
      bytes_are = more ∙ ap (λ (l : List ℕ). l ++ c.loop-i.value ∷ []) c.loop-i.invariant.bytes_are ∙ append_assoc front (garbage seed i) (c.loop-i.value ∷ [])
          ∙ ap (λ v. front ++ (garbage seed i ++ v ∷ [])) c.loop-i.invariant.value_is ∙ ap (λ (l : List ℕ). front ++ l) (sym (garbage_more seed i));
    }

pub returns : goal.returns
returns c =
    let meant = ap length c.as_slice-meant.ensures in
    left_whole c.args.pick c.args.file.now (c.args.file.now.firm + c.min.result) c.min-count.result c.loop-i.bytes c.requires
    (omega arith) (omega arith) (c.loop-i.invariant.bytes_are ∙ ap (λ n. take (c.args.file.now.firm + c.min.result) c.args.file.now.meant ++ garbage c.args.pick.seed n) (omega arith))
