use Rattle.std.proofs.Common.{length, ap, sym, ◌∙◌, Some, [], ◌∷◌}
use Rattle.cover_sets.specs.Bits.{sets_of}
use Rattle.cover_sets.specs.Covers.{CoverSets, consistent, no_demand, raw_of, reduced_row}
use Rattle.cover_sets.specs.Union.{covers_of}
use Rattle.cover_sets.proofs.FormulaRows.{consistent_none, consistent_one, one_list, one_row, row_nil}
use Rattle.cover_sets.proofs.tables.list_of.Goals as goal

pub returns-in_ok-one-in-True-clause-value : goal.returns-in_ok-one-in-True-clause-value
returns-in_ok-one-in-True-clause-value c =
    one_row c.args.opposites.now _ no_demand _ (ap (raw_of c.args.rows.now _) c.in-True.is) (consistent_none c.args.opposites.now) (ap covers_of c.in_ok-one-in-True.ensures)

pub returns-in_ok-one-in-True-clause-consistent : goal.returns-in_ok-one-in-True-clause-consistent
returns-in_ok-one-in-True-clause-consistent c = one_list c.args.opposites.now _ _ c.in_ok-one-in-True.ensures (consistent_none c.args.opposites.now)

pub returns-in-False-clause-value : goal.returns-in-False-clause-value
returns-in-False-clause-value c =
    ap (λ node. reduced_row c.args.opposites.now (raw_of c.args.rows.now (length c.args.rows.now) node)) c.in-False.is ∙ row_nil c.args.opposites.now ∙ ap (λ list. Some (covers_of list)) (sym c.new.ensures.items)

pub returns-in_ok-one-in-Lit-clause-value : goal.returns-in_ok-one-in-Lit-clause-value
returns-in_ok-one-in-Lit-clause-value c =
    one_row c.args.opposites.now _ (sets_of c.literal.result) _ (ap (raw_of c.args.rows.now (length c.args.rows.now)) c.in-Lit.is ∙ ap (λ s. Some (s ∷ [])) (sym c.literal.ensures))
    (ap (λ (s : CoverSets). consistent c.args.opposites.now s.literals) c.literal.ensures ∙ consistent_one c.args.opposites.now (length c.args.rows.now) c.requires.pairs) (ap covers_of c.in_ok-one-in-Lit.ensures)

pub returns-in_ok-one-in-Lit-clause-consistent : goal.returns-in_ok-one-in-Lit-clause-consistent
returns-in_ok-one-in-Lit-clause-consistent c =
    one_list c.args.opposites.now _ c.literal.result c.in_ok-one-in-Lit.ensures
    (ap (λ (s : CoverSets). consistent c.args.opposites.now s.literals) c.literal.ensures ∙ consistent_one c.args.opposites.now (length c.args.rows.now) c.requires.pairs)

pub returns-in_ok-one-in-Next-clause-value : goal.returns-in_ok-one-in-Next-clause-value
returns-in_ok-one-in-Next-clause-value c =
    one_row c.args.opposites.now _ (sets_of c.later.result) _ (ap (raw_of c.args.rows.now (length c.args.rows.now)) c.in-Next.is ∙ ap (λ s. Some (s ∷ [])) (sym c.later.ensures))
    (ap (λ (s : CoverSets). consistent c.args.opposites.now s.literals) c.later.ensures ∙ consistent_none c.args.opposites.now) (ap covers_of c.in_ok-one-in-Next.ensures)

pub returns-in_ok-one-in-Next-clause-consistent : goal.returns-in_ok-one-in-Next-clause-consistent
returns-in_ok-one-in-Next-clause-consistent c =
    one_list c.args.opposites.now _ c.later.result c.in_ok-one-in-Next.ensures
    (ap (λ (s : CoverSets). consistent c.args.opposites.now s.literals) c.later.ensures ∙ consistent_none c.args.opposites.now)
