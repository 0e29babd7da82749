-- The states make a machine, and a machine has no fault.
use Rattle.std.proofs.Common.{Vec, Global, ◌≡◌, ℕ, ◌<◌, List, [], length, map, sym, ap, subst, arith}
use Rattle.std.specs.List.{All}
use Rattle.std.proofs.lemmas.List.{length-map}
use Rattle.std.proofs.lemmas.List.Elements.{All-weaker}
use Rattle.word_core.specs.declared.names.Kind.{Kind}
use Rattle.word_core.specs.declared.names.Player.{Player}
use Rattle.word_core.specs.declared.machines.Line.{Line}
use Rattle.word_core.specs.declared.machines.MachineFault.{MachineFault}
use Rattle.word_core.specs.declared.machines.MachineFault.TheVariants.{Empty, Range, Gap, NotFirst}
use Rattle.word_core.specs.Machine.{MachineData, IsMachine, IsLine, IsDecided, HasOneOwn, HasFault}
use Rattle.game_form.specs.Game.{GameData, IsGame, own_width, other_width}
use Rattle.strategy_play.specs.State.{IsState}

pub no_fault : (m : MachineData) → IsMachine m → (e : MachineFault) → HasFault m e → ⊥
no_fault m is Empty fault = omega (arith, is.begins, ap length fault)
no_fault m is (Range s) fault = fault.1 (is.ranged s [] fault.0)
no_fault m is (Gap s) fault = fault.1.1 (is.decided s [] fault.1.0)
no_fault m is (NotFirst s) fault = fault.3.1 (is.first fault.2 s [] fault.3.0)

abbrev pub lines_in : Vec Line Global → List Line
lines_in v = v.items

abbrev pub made_of : List (List Line) → Player → Kind → ℕ → ℕ → MachineData
made_of states player kind inputs outputs = record { player = player; kind = kind; inputs = inputs; outputs = outputs; states = states }

pub is_machine : (g : GameData) (player : Player) (kind : Kind) (inputs outputs : ℕ) (states : List (Vec Line Global)) → IsGame g
    → player ≡ g.player → kind ≡ g.kind → inputs ≡ g.inputs → outputs ≡ g.outputs → 0 < length states → All (IsState g (length states)) (map lines_in states)
    → IsMachine (made_of (map lines_in states) player kind inputs outputs)
is_machine g player kind inputs outputs states known p k i o some all =
    subst (λ x. IsMachine (made_of (map lines_in states) x kind inputs outputs)) (sym p)
    (subst (λ x. IsMachine (made_of (map lines_in states) g.player x inputs outputs)) (sym k)
    (subst (λ x. IsMachine (made_of (map lines_in states) g.player g.kind x outputs)) (sym i)
    (subst (λ x. IsMachine (made_of (map lines_in states) g.player g.kind g.inputs x)) (sym o) base)))
  where
    size : length (map lines_in states) ≡ length states
    size = length-map states lines_in

    each : All (IsState g (length (map lines_in states))) (map lines_in states)
    each = subst (λ n. All (IsState g n) (map lines_in states)) (sym size) all

    base : IsMachine (made_of (map lines_in states) g.player g.kind g.inputs g.outputs)
    base = record {
      begins = omega (arith, some, size);
      narrow = omega (arith, known.widths);
      ranged = All-weaker (IsState g (length (map lines_in states))) (All (IsLine (own_width g) (other_width g) (length (map lines_in states)))) (λ lines s. s.ranged) (map lines_in states) each;
      decided = All-weaker (IsState g (length (map lines_in states))) (IsDecided (other_width g)) (λ lines s. s.decided) (map lines_in states) each;
      first = λ e. All-weaker (IsState g (length (map lines_in states))) HasOneOwn (λ lines s. s.first e) (map lines_in states) each;
    }
