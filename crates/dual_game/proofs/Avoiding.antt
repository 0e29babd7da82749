-- The automata of normal forms are those of the specification, and so are their limits.
use Rattle.std.proofs.Common.{◌≡◌, ℕ, ◌<◌, ◌≤◌, inl, inr, true, length, refl, sym, subst, arith}
use Rattle.std.specs.Prelude.{◌↔◌, List, Result, Ok, Err, IfOk, IfErr, IsErrAnd}
use Rattle.ltl_form.specs.declared.normals.FormError.{FormError}
use Rattle.ltl_form.specs.declared.normals.FormError.TheVariants as form
use Rattle.ltl_form.specs.declared.normals.Node.{Node}
use Rattle.ltl_form.specs.Meaning.{holds_at, tree_holds}
use Rattle.ltl_form.specs.NodeTrees.{formula_at}
use Rattle.nba_trim.specs.Trimmed.{AcceptSame, IsTrimmed}
use Rattle.tableau_nba.specs.declared.tableaux.TableauError.{TableauError}
use Rattle.tableau_nba.specs.declared.tableaux.TableauError.TheVariants as tableau
use Rattle.tableau_nba.specs.Acceptance.{AcceptsTruthOf}
use Rattle.tableau_nba.specs.Walks.{Spot, all_spots, automaton_in, walk_data}
use Rattle.tableau_nba.specs.Walks.Outcome.{found, too_wide, too_many}
use Rattle.tlsf_basic.specs.declared.specifications.Spec.{Spec}
use Rattle.tlsf_basic.specs.Specification.{signal_count}
use Rattle.word_core.specs.declared.names.Player.{Player}
use Rattle.word_core.specs.declared.names.Player.TheVariants.{System, Environment}
use Rattle.word_core.specs.Automaton.{AutomatonData, IsAutomaton}
use Rattle.word_core.specs.Lasso.{LassoData, size}
use Rattle.word_core.specs.Run.{Accepts}
use Rattle.dual_game.specs.declared.errors.GameError.{GameError}
use Rattle.dual_game.specs.declared.errors.GameError.TheVariants.{TooManyFormulas, TooWide, TooManyStates, Memory}
use Rattle.dual_game.specs.Automata.{avoided, formula_count, IsAutomatonOf, IsNormalOf, IsLimitOf, IsLimitOfPair}
use Rattle.dual_game.specs.Errors.{of_form, of_tableau}
use Rattle.dual_game.specs.Tableaux.{IsTrimmedTableau, IsTableauLimit}

-- what holds of an error holds of the same one passed on
pub passed_on : {T E : Type 0} (r : Result T E) (e : E) (P : E → Type 0) → IsErrAnd r (λ x. x ≡ e) → P e → IfErr r P
passed_on (Ok a) e P same p = tt
passed_on (Err x) e P same p = subst P (sym same) p

-- trimming keeps what is accepted
pub trimmed_accepts : (nodes : List Node) (root : ℕ) (whole t : AutomatonData) → AcceptsTruthOf nodes root whole → AcceptSame whole t → AcceptsTruthOf nodes root t
trimmed_accepts nodes root whole t truth same w some = (λ h. (truth w some).0 ((same w).0 h), λ h. (same w).1 ((truth w some).1 h))

-- what is trimmed is the automaton of the walk's states
pub trimmed_tableau : (nodes : List Node) (root signals : ℕ) (whole t : AutomatonData) (spots : List Spot)
    → all_spots (walk_data nodes signals) root ≡ found spots → whole ≡ automaton_in (walk_data nodes signals) spots → IsTrimmed whole t → IsAutomaton t → IsTrimmedTableau nodes root signals t
trimmed_tableau nodes root signals whole t spots walk is trimmed well =
    record { spots = spots; walk = walk; trimmed = subst (λ a. IsTrimmed a t) is trimmed; well = well }

-- where the walk stops
pub tableau_limit : (nodes : List Node) (root signals : ℕ) (e : TableauError)
    → (e ≡ tableau.TooManyStates → all_spots (walk_data nodes signals) root ≡ too_many) → (e ≡ tableau.TooWide → all_spots (walk_data nodes signals) root ≡ too_wide)
    → IsTableauLimit nodes root signals (of_tableau e)
tableau_limit nodes root signals tableau.TooWide many wide = wide refl
tableau_limit nodes root signals tableau.TooManyStates many wide = many refl
tableau_limit nodes root signals tableau.Memory many wide = tt

module _ (s : Spec) (who : Player) where
  -- a normal form that is too long
  pub form_limit : (e : FormError) → (e ≡ form.TooManyFormulas → 512 < formula_count s who) → IsLimitOf s who (of_form e)
  form_limit form.TooManyFormulas many = many refl
  form_limit form.Memory many = tt

  module _ (nodes : List Node) (root : ℕ) (normal : IsNormalOf s who nodes root) (signals : ℕ) (count : signals ≡ signal_count s.names) where
    here : {how : _} → all_spots (walk_data nodes signals) root ≡ how → all_spots (walk_data nodes (signal_count s.names)) root ≡ how
    here {how} = subst (λ n. all_spots (walk_data nodes n) root ≡ how) count

    -- a walk that stops at a limit
    pub walk_limit : (e : GameError) → IsTableauLimit nodes root signals e → IsLimitOf s who e
    walk_limit TooManyFormulas h = absurd h
    walk_limit TooWide h = record { nodes = nodes; root = root; normal = normal; walk = here h }
    walk_limit TooManyStates h = record { nodes = nodes; root = root; normal = normal; walk = here h }
    walk_limit Memory h = tt

    pub walk_limits : {T : Type 0} (r : Result T GameError) → IfErr r (IsTableauLimit nodes root signals) → IfErr r (IsLimitOf s who)
    walk_limits (Ok a) h = tt
    walk_limits (Err e) h = walk_limit e h

    module _ (meaning : (w : LassoData) → 0 < size w → tree_holds w (formula_at nodes root) 0 ≡ avoided who (holds_at w s.formula 0)) where
      -- the normal form holds where there is what the player must avoid
      pub avoids : (a : AutomatonData) → IsTrimmedTableau nodes root signals a → AcceptsTruthOf nodes root a → IsAutomatonOf s who a
      avoids a made truth =
          let at_count = subst (λ n. IsTrimmedTableau nodes root n a) count made in
          record { nodes = nodes; root = root; spots = at_count.spots; normal = normal; walk = at_count.walk; trimmed = at_count.trimmed; well = at_count.well; accepts = accepted }
        where
          accepted : (w : LassoData) → 0 < length w.cycle → Accepts a w ↔ (avoided who (holds_at w s.formula 0) ≡ true)
          accepted w some =
              let positions : 0 < size w = omega (arith, some) in
              subst (λ b. Accepts a w ↔ (b ≡ true)) (meaning w positions) (truth w some)

      pub avoids_result : (r : Result AutomatonData GameError) → IfOk r (IsTrimmedTableau nodes root signals) → IfOk r (AcceptsTruthOf nodes root) → IfOk r (IsAutomatonOf s who)
      avoids_result (Ok a) made truth = avoids a made truth
      avoids_result (Err e) made truth = tt

-- ---- the limits of both players

module _ (s : Spec) where
  pub system_form : (e : FormError) → (e ≡ form.TooManyFormulas → 512 < formula_count s System) → IsLimitOfPair s (of_form e)
  system_form form.TooManyFormulas many = inl (many refl)
  system_form form.Memory many = tt

  pub environment_form : (e : FormError) → (e ≡ form.TooManyFormulas → 512 < formula_count s Environment) → IsLimitOfPair s (of_form e)
  environment_form form.TooManyFormulas many = inr (many refl)
  environment_form form.Memory many = tt

  module _ (few_system : formula_count s System ≤ 512) (few_environment : formula_count s Environment ≤ 512) where
    few : (who : Player) → formula_count s who ≤ 512
    few System = few_system
    few Environment = few_environment

    module _ (nodes : List Node) (root : ℕ) (signals : ℕ) (count : signals ≡ signal_count s.names) where
      pub system_walk : IsNormalOf s System nodes root → (e : GameError) → IsTableauLimit nodes root signals e → IsLimitOfPair s e
      system_walk normal TooManyFormulas h = absurd h
      system_walk normal TooWide h = record { few = few; passed = inl (walk_limit s System nodes root normal signals count TooWide h) }
      system_walk normal TooManyStates h = record { few = few; passed = inl (walk_limit s System nodes root normal signals count TooManyStates h) }
      system_walk normal Memory h = tt

      pub environment_walk : (a : AutomatonData) → IsAutomatonOf s System a → IsNormalOf s Environment nodes root → (e : GameError) → IsTableauLimit nodes root signals e → IsLimitOfPair s e
      environment_walk a is normal TooManyFormulas h = absurd h
      environment_walk a is normal TooWide h = record { few = few; passed = inr (a, is, walk_limit s Environment nodes root normal signals count TooWide h) }
      environment_walk a is normal TooManyStates h = record { few = few; passed = inr (a, is, walk_limit s Environment nodes root normal signals count TooManyStates h) }
      environment_walk a is normal Memory h = tt
