-- Cubes of one side, and of what two cubes hold.
use Rattle.std.proofs.Common.{◌≡◌, ℕ, ◌+◌, ◌*◌, ◌/◌, ◌%◌, ◌<◌, ◌^◌, min, max, true, List, Some, None, sym, ap, subst, ◌∙◌, arith}
use Rattle.std.specs.Prelude.{bit_and, bit_or}
use Rattle.std.specs.Int.{bit_at}
use Rattle.std.proofs.lemmas.Nat.{and_shr, and_mod, and_block, and_assoc, and_le_l, shr_split, shr_below, mod_below, pow_pos, same_from_place}
use Rattle.std.proofs.lemmas.Nat.Bits.{bit_at_and, bit_at_or, same_from_bits}
use Rattle.std.specs.List.{All}
use Rattle.word_core.proofs.BitLaws.{both_agree, and_or_distrib}
use Rattle.word_core.proofs.CubeHalves.{holds_is, is_holds}
use Rattle.witness_check.proofs.ChoiceLaws.{holds_mod, choice_mod}
use Rattle.word_core.specs.declared.cubes.Cube.{Cube}
use Rattle.word_core.specs.declared.automata.Edge.{Edge}
use Rattle.word_core.specs.declared.machines.Line.{Line}
use Rattle.word_core.specs.declared.names.Player.{Player}
use Rattle.word_core.specs.declared.names.Player.TheVariants.{System, Environment}
use Rattle.word_core.specs.Cube.{holds, IsCube}
use Rattle.word_core.specs.Gap.{IsLeastGap}
use Rattle.word_core.specs.Machine.{MachineData, IsLine, own_width, other_width, own_of, other_of}
use Rattle.word_core.specs.Play.{letter_of}
use Rattle.witness_check.specs.Product.{own_side, other_side, joined_of, IsPart, IsTaken, HasGap}

both_part : (a b c d : ℕ) → min a c ≡ a → min b d ≡ b → min (max a b) (max c d) ≡ max a b
both_part a b c d h k = omega arith

-- the joined cube's want is a part of its care
pub part_joined : (a b : Cube) → IsPart a → IsPart b → IsPart (joined_of a b)
part_joined a b h k =
    same_from_bits _ _ (λ i.
    bit_at_and (bit_or a.want b.want) (bit_or a.care b.care) i
    ∙ ap (λ x. min x (bit_at (bit_or a.care b.care) i)) (bit_at_or a.want b.want i)
    ∙ ap (min (max (bit_at a.want i) (bit_at b.want i))) (bit_at_or a.care b.care i)
    ∙ both_part (bit_at a.want i) (bit_at b.want i) (bit_at a.care i) (bit_at b.care i) (sym (bit_at_and a.want a.care i) ∙ ap (λ x. bit_at x i) h) (sym (bit_at_and b.want b.care i) ∙ ap (λ x. bit_at x i) k)
    ∙ sym (bit_at_or a.want b.want i))

more_left : (a b : ℕ) → min (max a b) a ≡ a
more_left a b = omega arith

absorb_left : (a b : ℕ) → bit_and (bit_or a b) a ≡ a
absorb_left a b =
    same_from_bits _ _ (λ i. bit_at_and (bit_or a b) a i ∙ ap (λ x. min x (bit_at a i)) (bit_at_or a b i) ∙ more_left (bit_at a i) (bit_at b i))

more_right : (a b : ℕ) → min (max a b) b ≡ b
more_right a b = omega arith

absorb_right : (a b : ℕ) → bit_and (bit_or a b) b ≡ b
absorb_right a b =
    same_from_bits _ _ (λ i. bit_at_and (bit_or a b) b i ∙ ap (λ x. min x (bit_at b i)) (bit_at_or a b i) ∙ more_right (bit_at a i) (bit_at b i))

-- the wants within the first care are the first want, where the cubes agree
wants_left : (a b c d : ℕ) → min a c ≡ a → min a d ≡ min b c → min (max a b) c ≡ a
wants_left a b c d h k = omega arith

wants_right : (a b c d : ℕ) → min b d ≡ b → min a d ≡ min b c → min (max a b) d ≡ b
wants_right a b c d h k = omega arith

module _ (a b : Cube) (agree : bit_and a.want b.care ≡ bit_and b.want a.care) where
  bits_agree : (i : ℕ) → min (bit_at a.want i) (bit_at b.care i) ≡ min (bit_at b.want i) (bit_at a.care i)
  bits_agree i = sym (bit_at_and a.want b.care i) ∙ ap (λ x. bit_at x i) agree ∙ bit_at_and b.want a.care i

  first_want : IsPart a → bit_and (bit_or a.want b.want) a.care ≡ a.want
  first_want h =
      same_from_bits _ _ (λ i.
      bit_at_and (bit_or a.want b.want) a.care i
      ∙ ap (λ x. min x (bit_at a.care i)) (bit_at_or a.want b.want i)
      ∙ wants_left (bit_at a.want i) (bit_at b.want i) (bit_at a.care i) (bit_at b.care i) (sym (bit_at_and a.want a.care i) ∙ ap (λ x. bit_at x i) h) (bits_agree i))

  second_want : IsPart b → bit_and (bit_or a.want b.want) b.care ≡ b.want
  second_want h =
      same_from_bits _ _ (λ i.
      bit_at_and (bit_or a.want b.want) b.care i
      ∙ ap (λ x. min x (bit_at b.care i)) (bit_at_or a.want b.want i)
      ∙ wants_right (bit_at a.want i) (bit_at b.want i) (bit_at a.care i) (bit_at b.care i) (sym (bit_at_and b.want b.care i) ∙ ap (λ x. bit_at x i) h) (bits_agree i))

  pub joined_first : IsPart a → (x : ℕ) → holds (joined_of a b) x ≡ true → holds a x ≡ true
  joined_first p x h =
      is_holds a x
      (ap (bit_and x) (sym (absorb_left a.care b.care))
      ∙ sym (and_assoc a.care x (bit_or a.care b.care))
      ∙ ap (λ y. bit_and y a.care) (holds_is (joined_of a b) x h)
      ∙ first_want p)

  pub joined_second : IsPart b → (x : ℕ) → holds (joined_of a b) x ≡ true → holds b x ≡ true
  joined_second p x h =
      is_holds b x
      (ap (bit_and x) (sym (absorb_right a.care b.care))
      ∙ sym (and_assoc b.care x (bit_or a.care b.care))
      ∙ ap (λ y. bit_and y b.care) (holds_is (joined_of a b) x h)
      ∙ second_want p)

pub both_joined : (a b : Cube) (x : ℕ) → holds a x ≡ true → holds b x ≡ true → holds (joined_of a b) x ≡ true
both_joined a b x h k =
    is_holds (joined_of a b) x
    (and_or_distrib x a.care b.care ∙ ap (λ y. bit_or y (bit_and x b.care)) (holds_is a x h) ∙ ap (bit_or a.want) (holds_is b x k))

pub both_agree_at : (a b : Cube) (x : ℕ) → holds a x ≡ true → holds b x ≡ true → bit_and a.want b.care ≡ bit_and b.want a.care
both_agree_at a b x h k = both_agree x a.care a.want b.care b.want (holds_is a x h) (holds_is b x k)

-- a number of two blocks within a cube
block_of : (hi lo k care : ℕ) → lo < 2 ^ k → bit_and (hi * 2 ^ k + lo) care ≡ bit_and hi (care / 2 ^ k) * 2 ^ k + bit_and lo (care % 2 ^ k)
block_of hi lo k care l =
    ap (bit_and (hi * 2 ^ k + lo)) (sym (shr_split care k)) ∙ and_block k hi (care / 2 ^ k) lo (care % 2 ^ k) l (mod_below care (2 ^ k) (pow_pos k))

pub block_hold : (hi lo k care want : ℕ) → lo < 2 ^ k → bit_and (hi * 2 ^ k + lo) care ≡ want → (bit_and hi (care / 2 ^ k) ≡ want / 2 ^ k) × (bit_and lo (care % 2 ^ k) ≡ want % 2 ^ k)
block_hold hi lo k care want l h =
    let m = and_le_l lo (care % 2 ^ k) in
    same_from_place (bit_and hi (care / 2 ^ k)) (bit_and lo (care % 2 ^ k)) (want / 2 ^ k) (want % 2 ^ k) (2 ^ k) (omega arith) (mod_below want (2 ^ k) (pow_pos k))
    (sym (block_of hi lo k care l) ∙ h ∙ sym (shr_split want k))

pub hold_block : (hi lo k care want : ℕ) → lo < 2 ^ k → bit_and hi (care / 2 ^ k) ≡ want / 2 ^ k → bit_and lo (care % 2 ^ k) ≡ want % 2 ^ k → bit_and (hi * 2 ^ k + lo) care ≡ want
hold_block hi lo k care want l h m =
    block_of hi lo k care l ∙ ap (λ x. x * 2 ^ k + bit_and lo (care % 2 ^ k)) h ∙ ap (λ x. want / 2 ^ k * 2 ^ k + x) m ∙ shr_split want k

-- a cube holds a letter exactly where its two sides hold the letter's
pub letter_sides : (p : Player) (inputs outputs : ℕ) (c : Cube) (own other : ℕ) → own < 2 ^ own_width p inputs outputs → other < 2 ^ other_width p inputs outputs → holds c (letter_of p inputs (record { own = own; other = other })) ≡ true → (holds (own_side p inputs c) own ≡ true) × (holds (other_side p inputs c) other ≡ true)
letter_sides System inputs outputs c own other l m h =
    let b = block_hold own other inputs c.care c.want m (holds_is c (own * 2 ^ inputs + other) h) in
    (is_holds (own_side System inputs c) own b.0, is_holds (other_side System inputs c) other b.1)
letter_sides Environment inputs outputs c own other l m h =
    let b = block_hold other own inputs c.care c.want l (holds_is c (other * 2 ^ inputs + own) h) in
    (is_holds (own_side Environment inputs c) own b.1, is_holds (other_side Environment inputs c) other b.0)

pub sides_letter : (p : Player) (inputs outputs : ℕ) (c : Cube) (own other : ℕ) → own < 2 ^ own_width p inputs outputs → other < 2 ^ other_width p inputs outputs → holds (own_side p inputs c) own ≡ true → holds (other_side p inputs c) other ≡ true → holds c (letter_of p inputs (record { own = own; other = other })) ≡ true
sides_letter System inputs outputs c own other l m h k =
    is_holds c (own * 2 ^ inputs + other) (hold_block own other inputs c.care c.want m (holds_is (own_side System inputs c) own h) (holds_is (other_side System inputs c) other k))
sides_letter Environment inputs outputs c own other l m h k =
    is_holds c (other * 2 ^ inputs + own) (hold_block other own inputs c.care c.want l (holds_is (other_side Environment inputs c) other k) (holds_is (own_side Environment inputs c) own h))

-- the other side of a cube over all signals is one over the other's
plus_comm : (a b : ℕ) → a + b ≡ b + a
plus_comm a b = omega arith

pub other_side_in : (p : Player) (inputs outputs : ℕ) (c : Cube) → IsCube (inputs + outputs) c → IsCube (other_width p inputs outputs) (other_side p inputs c)
other_side_in System inputs outputs c w =
    (mod_below c.care (2 ^ inputs) (pow_pos inputs), sym (and_mod c.want c.care inputs) ∙ ap (λ x. x % 2 ^ inputs) w.1)
other_side_in Environment inputs outputs c w =
    (shr_below c.care outputs inputs (subst (λ x. c.care < 2 ^ x) (plus_comm inputs outputs) w.0), sym (and_shr c.want c.care inputs) ∙ ap (λ x. x / 2 ^ inputs) w.1)

-- a gap of the sides is a letter that is taken
pub taken_from_gap : (m : MachineData) (e : Edge) (l : Line) (earlier : List Line) (count : ℕ) → IsCube (m.inputs + m.outputs) e.cube → IsLine (own_of m) (other_of m) count l → All (λ l. IsCube (other_of m) l.when) earlier → holds (own_side m.player m.inputs e.cube) l.own ≡ true → HasGap l.when (other_side m.player m.inputs e.cube) earlier → IsTaken m e l earlier
taken_from_gap m e l earlier count w v all own g =
    let n = other_of m in
    let x = g.0 % 2 ^ n in
    let below = mod_below g.0 (2 ^ n) (pow_pos n) in
    let other = other_side_in m.player m.inputs m.outputs e.cube w in (
      x,
      below,
      holds_mod l.when g.0 n v.0 ∙ g.1,
      choice_mod earlier g.0 n all ∙ g.3,
      sides_letter m.player m.inputs m.outputs e.cube l.own x v.1 below own (holds_mod (other_side m.player m.inputs e.cube) g.0 n other ∙ g.2),
    )

pub gap_from_taken : (m : MachineData) (e : Edge) (l : Line) (earlier : List Line) (count : ℕ) → IsLine (own_of m) (other_of m) count l → IsTaken m e l earlier → (holds (own_side m.player m.inputs e.cube) l.own ≡ true) × HasGap l.when (other_side m.player m.inputs e.cube) earlier
gap_from_taken m e l earlier count v t =
    let s = letter_sides m.player m.inputs m.outputs e.cube l.own t.0 v.1 t.1 t.4 in
    (s.0, (t.0, t.2, s.1, t.3))

-- no gap of a joined cube
pub no_gap : (a b : Cube) (lines : List Line) → IsLeastGap lines (joined_of a b) None → HasGap a b lines → ⊥
no_gap a b lines h g = h g.0 (both_joined a b g.0 g.1 g.2, g.3)

pub some_gap : (a b : Cube) (lines : List Line) (x : ℕ) → bit_and a.want b.care ≡ bit_and b.want a.care → IsPart a → IsPart b → IsLeastGap lines (joined_of a b) (Some x) → HasGap a b lines
some_gap a b lines x agree p q h = (x, joined_first a b agree p x h.0.0, joined_second a b agree q x h.0.0, h.0.1)

pub apart_gap : (a b : Cube) (lines : List Line) → (bit_and a.want b.care ≡ bit_and b.want a.care → ⊥) → HasGap a b lines → ⊥
apart_gap a b lines n g = n (both_agree_at a b g.0 g.1 g.2)
