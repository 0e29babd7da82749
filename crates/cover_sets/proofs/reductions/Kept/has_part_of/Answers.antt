use Rattle.std.proofs.Common.{◌≡◌, ◌<◌, ◌∙◌, false, true, length, arith, refl, sym, subst}
use Rattle.std.proofs.lemmas.List.{get_or_read}
use Rattle.cover_sets.specs.Bits.{sets_of}
use Rattle.cover_sets.specs.Covers.{part_of}
use Rattle.cover_sets.proofs.Unions.{no_part, part_found, part_nowhere, part_passed, same_length}
use Rattle.cover_sets.proofs.reductions.Kept.has_part_of.Goals as goal
use Rattle.cover_sets.proofs.reductions.Kept.has_part_of.Goals.{else-own-signature-via-then-own-signature+else-is_part_of, else-own-signature-via-else-own-signature}

pub loop-at-preserved : goal.loop-at-preserved
loop-at-preserved c =
    let covers = c.args.self.now.covers.items in
    let cover = c.args.cover.now in
    let at = c.loop-at.at in
    let is = c.deref-own-items.ensures.value ∙ c.requires.signed in
    let l : at < length covers = omega (arith, same_length covers _ is) in
    part_passed covers at cover cover _ l c.loop-at.invariant
    (elim c.else-own-signature.branch [
      | else-own-signature-via-then-own-signature+else-is_part_of w ↦
          subst (λ x. part_of (sets_of x) (sets_of cover) ≡ false) (get_or_read covers at w.index.result.now l w.index.ensures cover) (sym w.is_part_of.ensures ∙ w.if-is_part_of.false)
      | else-own-signature-via-else-own-signature w ↦ no_part covers _ at _ c.args.signature cover cover is l refl c.requires.signature w.if-own-signature.false
    ])

pub returns-then-is_part_of : goal.returns-then-is_part_of
returns-then-is_part_of c =
    let covers = c.args.self.now.covers.items in
    let cover = c.args.cover.now in
    let is = c.deref-own-items.ensures.value ∙ c.requires.signed in
    let l : c.loop-at.at < length covers = omega (arith, same_length covers _ is) in
    part_found covers c.loop-at.at cover cover _ l c.loop-at.invariant
    (subst (λ x. part_of (sets_of x) (sets_of cover) ≡ true) (get_or_read covers c.loop-at.at c.index.result.now l c.index.ensures cover) (sym c.is_part_of.ensures ∙ c.if-is_part_of.true))

pub returns : goal.returns
returns c =
    let is = c.deref-own-items.ensures.value ∙ c.requires.signed in
    part_nowhere c.args.self.now.covers.items c.loop-at.at c.args.cover.now _ (omega (arith, same_length c.args.self.now.covers.items _ is)) c.loop-at.invariant
