use Rattle.std.proofs.Common.{◌≡◌, ◌∙◌, ◌||◌, ◌∷◌, List, ap, sym, subst}
use Rattle.std.specs.Prelude.{ℤ}
use Rattle.std.specs.List.{All, AllPairs}
use Rattle.std.specs.Vec.Iter.{into_iter_items}
use Rattle.game_core.specs.Front.{IsApart, Misses, under}
use Rattle.game_core.proofs.Replacements.{under_more}
use Rattle.game_core.proofs.Unders.{first_apart, first_missed, misses_pieces, put_under, rest_apart, rest_missed}
use Rattle.game_core.proofs.exchanges.put_pieces.Goals as goal

pub loop-piece-init : goal.loop-piece-init
loop-piece-init c =
    let vs : List (List ℤ) = c.args.entries.now.vectors.items in
    let gives : into_iter_items c.into_iter-piece-iterator.result ≡ c.args.pieces.items = c.into_iter-piece-iterator.ensures.into_iter_gives.0 in (
      c.requires.entries,
      c.requires.misses,
      λ columns h. h,
      under_more c.args.f.now vs,
      subst (AllPairs IsApart) (sym gives) c.requires.apart,
      subst (λ (ps : List (List ℤ)). All (λ e. Misses e ps) vs) (sym gives)
          (misses_pieces c.args.f.now vs c.args.pieces.items c.requires.above (λ k d lt. (c.requires.pieces k d lt).below)),
      λ u. ap (λ (ps : List (List ℤ)). under vs u || under ps u) gives,
    )

pub put_piece-requires-clause-above : goal.put_piece-requires-clause-above
put_piece-requires-clause-above c =
    first_missed c.in-Some.piece c.loop-piece.entries.vectors.items (into_iter_items c.loop-piece.piece-iterator) (into_iter_items c.next.new.self)
    c.in-Some.ensures.steps.0 c.loop-piece.invariant.5

pub loop-piece-preserved : goal.loop-piece-preserved
loop-piece-preserved c =
    let old : List (List ℤ) = c.loop-piece.entries.vectors.items in
    let all : List (List ℤ) = into_iter_items c.loop-piece.piece-iterator in
    let rest : List (List ℤ) = into_iter_items c.next.new.self in
    let steps : all ≡ c.in-Some.piece ∷ rest = c.in-Some.ensures.steps.0 in (
      c.in_ok-put_piece.ensures.entries,
      c.in_ok-put_piece.ensures.misses,
      λ columns h. c.in_ok-put_piece.ensures.columns columns (c.loop-piece.invariant.2 columns h),
      c.in_ok-put_piece.ensures.under c.args.entries.now.vectors.items c.loop-piece.invariant.3,
      rest_apart c.in-Some.piece all rest steps c.loop-piece.invariant.4,
      c.in_ok-put_piece.ensures.rest rest (first_apart c.in-Some.piece all rest steps c.loop-piece.invariant.4)
          (rest_missed c.in-Some.piece old all rest steps c.loop-piece.invariant.5),
      λ u.
          put_under u c.in-Some.piece old c.put_piece.new.entries.vectors.items rest (under c.args.entries.now.vectors.items u || under c.args.pieces.items u)
          (ap (λ (xs : List (List ℤ)). under old u || under xs u) (sym steps) ∙ c.loop-piece.invariant.6 u) (c.in_ok-put_piece.ensures.whole u),
    )
