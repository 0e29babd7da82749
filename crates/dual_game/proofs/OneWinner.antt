-- Only one player wins.
use Rattle.std.proofs.Common.{◌≡◌, ℕ, ◌<◌, ◌≤◌, length, inl, inr, refl, sym, ◌∙◌, ap, arith}
use Rattle.word_core.specs.declared.names.Player.TheVariants.{System, Environment}
use Rattle.word_core.specs.declared.names.Target.{Target}
use Rattle.word_core.specs.declared.names.Target.TheVariants.{Mealy, Moore}
use Rattle.word_core.specs.Lasso.{LassoData, prefix}
use Rattle.word_core.specs.Play.{IsLassoPlay}
use Rattle.word_core.specs.Run.{count}
use Rattle.dual_game.specs.Games.{kind_of}
use Rattle.dual_game.specs.Winning.{OnlyOneWins, KeptIsRefused}
use Rattle.dual_game.specs.Plays.{KeepsAbove, Opposed}
use Rattle.dual_game.proofs.Meeting.{meeting}

pub kept_is_refused : KeptIsRefused
kept_is_refused a m w k keeps play accepts =
    let r = accepts k in
    let low : count r.1 ≤ k = keeps (prefix w r.0) r.1 (play r.0) r.2 in
    absurd (clash low r.3)
  where
    clash : {x y : ℕ} → x ≤ y → y < x → ⊥
    clash le less = omega arith

pub keeps_above : KeepsAbove
keeps_above a m j k le keeps letters edges play run = omega (arith, le, keeps letters edges play run)

pub only_one_wins : OnlyOneWins
only_one_wins pair names j k opposed s e = by names.target refl
  where
    refuted : (w : LassoData) → 0 < length w.cycle → IsLassoPlay s.machine w → IsLassoPlay e.machine w → ⊥
    refuted w some ps pe =
        opposed w some (kept_is_refused pair.system s.machine w j s.keeps ps) (kept_is_refused pair.environment e.machine w k e.keeps pe)

    by : (t : Target) → names.target ≡ t → ⊥
    by Mealy is =
        let both : Opposed e.machine s.machine = record {
          first = e.fits.machine;
          second = s.fits.machine;
          first_kind = e.fits.kind ∙ ap (kind_of Environment) is;
          players = inr (e.fits.player, s.fits.player);
          inputs = e.fits.inputs ∙ sym s.fits.inputs;
          outputs = e.fits.outputs ∙ sym s.fits.outputs;
        } in
        let r = meeting e.machine s.machine both in
        refuted r.word r.endless r.second r.first
    by Moore is =
        let both : Opposed s.machine e.machine = record {
          first = s.fits.machine;
          second = e.fits.machine;
          first_kind = s.fits.kind ∙ ap (kind_of System) is;
          players = inl (s.fits.player, e.fits.player);
          inputs = s.fits.inputs ∙ sym e.fits.inputs;
          outputs = s.fits.outputs ∙ sym e.fits.outputs;
        } in
        let r = meeting s.machine e.machine both in
        refuted r.word r.endless r.first r.second
