use Rattle.std.proofs.Common.{◌∙◌, List, ap, subst, sym}
use Rattle.std.specs.Prelude.{ℤ}
use Rattle.std.specs.List.{All, AllPairs}
use Rattle.std.proofs.lemmas.List.Elements.{All-cons}
use Rattle.game_core.specs.Front.{IsApart, IsPiece, under}
use Rattle.game_core.proofs.Pieces.{pieces_filtered}
use Rattle.game_core.proofs.Unders.{apart_filtered, apart_replaced, fronted, under_replaced}
use Rattle.game_core.proofs.refinements.add_missed.Goals as goal

pub returns-in_err-insert-clause-kept : goal.returns-in_err-insert-clause-kept
returns-in_err-insert-clause-kept c = rw (c.in_err-insert.ensures.items, c.drop_below.ensures) (pieces_filtered _ _ _ c.requires.kept)

pub returns-in_err-insert-clause-apart : goal.returns-in_err-insert-clause-apart
returns-in_err-insert-clause-apart c = rw (c.in_err-insert.ensures.items, c.drop_below.ensures) (apart_filtered c.args.piece c.args.kept.now.items c.requires.apart)

pub returns-clause-kept : goal.returns-clause-kept
returns-clause-kept c =
    subst (All (IsPiece c.args.f.now)) (sym (fronted c.args.piece c.args.kept.now.items _ _ c.drop_below.ensures c.in_ok-insert.ensures.items))
    (All-cons (IsPiece c.args.f.now) c.args.piece _ c.requires.piece (pieces_filtered _ _ _ c.requires.kept))

pub returns-clause-apart : goal.returns-clause-apart
returns-clause-apart c =
    subst (AllPairs IsApart) (sym (fronted c.args.piece c.args.kept.now.items _ _ c.drop_below.ensures c.in_ok-insert.ensures.items))
    (apart_replaced c.args.piece c.args.kept.now.items c.requires.apart c.requires.missed)

pub returns-clause-under : goal.returns-clause-under
returns-clause-under c = λ u.
    ap (λ (xs : List (List ℤ)). under xs u) (fronted c.args.piece c.args.kept.now.items _ _ c.drop_below.ensures c.in_ok-insert.ensures.items) ∙ under_replaced u c.args.piece c.args.kept.now.items
