use Rattle.std.proofs.Common.{◌≡◌, ℕ, ◌+◌, ◌-◌, ◌/◌, ◌^◌, ◌++◌, ◌∙◌, List, [], ◌∷◌, length, sym, ap, subst, arith}
use Rattle.std.specs.List.{All}
use Rattle.std.proofs.lemmas.List.{length_push}
use Rattle.std.proofs.lemmas.List.Elements.{All-push}
use Rattle.word_core.specs.Tree.{label_at, label_of}
use Rattle.letter_tree.specs.Diagram.{TreeData}
use Rattle.letter_tree.specs.Cut.{end_at}
use Rattle.letter_tree.proofs.Rests.{rests_more}
use Rattle.letter_tree.proofs.cuts.rests.Goals as goal

pub loop-place-preserved : goal.loop-place-preserved
loop-place-preserved c =
    let out = c.loop-place.out.items in
    let i : ℕ = c.loop-place.place-index in
    let new : TreeData = c.of_parts.result in
    let pushed : c.push.new.self.items ≡ out ++ new ∷ [] = c.in_ok-push.ensures.items in
    let W : TreeData → Type 0 = λ t. t.width ≡ c.args.whole - c.args.width in
    let own : (bits : ℕ) → label_of new.nodes (bits / 2 ^ c.args.width) ≡ label_at c.args.nodes.now (end_at c.args.ends.now i) bits = λ bits.
    ap (λ (t : TreeData). label_of t.nodes (bits / 2 ^ c.args.width)) c.of_parts.ensures ∙ c.in_ok-rest.ensures.label bits in
    record {
      count = ap (λ (l : List TreeData). length l) pushed ∙ length_push out new ∙ ap (λ n. n + 1) c.loop-place.invariant.count;
      width = subst (All W) (sym pushed) (All-push W out new c.loop-place.invariant.width (ap (λ (t : TreeData). t.width) c.of_parts.ensures));
      each = rests_more c.args.nodes.now c.args.width c.args.ends.now i out c.push.new.self.items new c.loop-place.invariant.count pushed own c.loop-place.invariant.each;
    }

pub returns-clause-each : goal.returns-clause-each
returns-clause-each c = λ i bits lt. c.loop-place.invariant.each i bits (omega (arith, c.loop-place-test.false, lt))
