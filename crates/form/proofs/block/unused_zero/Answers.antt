-- A byte behind the slots is one of the part. Assumes nothing.
use Rattle.std.specs.Prelude.{◌↔◌, IsTrue, EachIndex}
use Rattle.std.proofs.Common.{ℕ, ◌+◌, ◌-◌, ◌*◌, ◌<◌, ◌≤◌, ◌≡◌, refl, Bool, true, false, List, length, take, drop, get_or, arith, get_or-take, get_or-drop, length-take, length-drop, ap, sym, ◌∙◌}
use Rattle.plant.specs.Reflect.{Is}
use Rattle.state.specs.Tell.{tell_yes, tell_no}
use Rattle.form.specs.BlockTest.{Zeros}
use Rattle.form.proofs.block.unused_zero.Goals as goal

module _ (block : List ℕ) (a : ℕ) (l : length block ≡ 512) (h : a ≤ 508) where
  part : List ℕ
  part = take (508 - a) (drop a block)

  byte : (k : ℕ) → k < 508 - a → get_or (take (508 - a) (drop a block)) k 0 ≡ get_or block (a + k) 0
  byte k q = get_or-take (508 - a) (drop a block) k 0 q ∙ get_or-drop a block k 0

  zeros_part : (r : Bool) → (IsTrue r ↔ EachIndex (take (508 - a) (drop a block)) (λ k. get_or (take (508 - a) (drop a block)) k 0 ≡ 0)) → Is r (Zeros block a)
  zeros_part true e =
      tell_yes (λ i p q.
      let d : a + (i - a) ≡ i = omega arith in
      ap (λ (k : ℕ). get_or block k 0) (sym d)
      ∙ (sym (byte (i - a) (omega arith)) ∙ e.0 refl (i - a) (omega (arith, length-take (508 - a) (drop a block), length-drop a block))))
  zeros_part false e =
      tell_no (λ z.
      let t : false ≡ true =
      e.1 (λ k q. byte k (omega (arith, length-take (508 - a) (drop a block))) ∙ z (a + k) (omega arith) (omega (arith, length-take (508 - a) (drop a block)))) in
      cc)

pub returns : goal.returns
returns c = let e = c.from.ensures in rw e at (zeros_part c.args.block.now (8 + 8 * c.from.result) c.told-block (omega arith) c.all_zero.result c.all_zero.ensures)
