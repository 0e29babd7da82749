use Rattle.std.proofs.Common.{ℕ, ◌<◌, length, refl, arith}
use Rattle.std.specs.List.{slice_get}
use Rattle.letter_tree.specs.Leading.{PartEndsIn}
use Rattle.letter_tree.proofs.Leadings.{part_leads_on, leads_last, last_leads, none_more}
use Rattle.letter_tree.proofs.occurrences.leads.Goals as goal

pub loop-place-init : goal.loop-place-init
loop-place-init c = λ q lt k. omega (arith, lt)

pub loop-place-preserved : goal.loop-place-preserved
loop-place-preserved c =
    none_more c.args.width c.args.nodes.now c.args.signal c.args.bits c.args.label c.loop-place.place c.part_leads.result c.if-part_leads.false c.part_leads.ensures.1 c.loop-place.invariant

pub returns-then-part_leads : goal.returns-then-part_leads
returns-then-part_leads c = (
  λ h. part_leads_on c.args.width c.args.nodes.now c.requires.tree c.args.signal c.args.bits c.args.label c.requires.whole c.loop-place.place (c.part_leads.ensures.0 c.if-part_leads.true),
  λ k. refl,
)

pub returns : goal.returns
returns c =
    let none : (q : ℕ) → q < length c.args.nodes.now → PartEndsIn c.args.width c.args.nodes.now c.args.signal c.args.bits c.args.label (slice_get c.args.nodes.now q) → ⊥ = λ q lt.
    c.loop-place.invariant q (omega (arith, lt, c.loop-place-test.false)) in (
      λ h. last_leads c.args.width c.args.nodes.now c.requires.tree c.args.signal c.args.bits c.args.label c.requires.whole (c.ends_in.ensures.0 h),
      λ k. c.ends_in.ensures.1 (leads_last c.args.width c.args.nodes.now c.requires.tree c.args.signal c.args.bits c.args.label c.requires.whole c.requires.narrow none k),
    )
