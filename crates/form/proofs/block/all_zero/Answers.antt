-- One byte more is joined: 0 exactly where that byte is 0 too. Assumes nothing.
use Rattle.std.proofs.Common.{ℕ, ◌+◌, ◌<◌, ◌≡◌, refl, arith, get_or, below_more}
use Rattle.std.specs.Prelude.{◌↔◌}
use Rattle.std.specs.Int.Bits.{bit_or}
use Rattle.std.proofs.lemmas.Nat.{le_or_l, le_or_r}
use Rattle.form.proofs.block.all_zero.Goals as goal

joined_more : (P : ℕ → Type 0) (i j b : ℕ) → (b ≡ 0 ↔ P i) → (j ≡ 0 ↔ ((k : ℕ) → k < i → P k)) → (bit_or j b ≡ 0 ↔ ((k : ℕ) → k < i + 1 → P k))
joined_more P i j b here before = (
  (λ e. below_more P i (before.0 (omega (arith, le_or_l j b))) (here.0 (omega (arith, le_or_r j b)))),
  (λ f. let e : j ≡ 0 = before.1 (λ k h. f k (omega arith)) in let d : b ≡ 0 = here.1 (f i (omega arith)) in rw (e, d) refl),
)

pub loop-byte-preserved : goal.loop-byte-preserved
loop-byte-preserved c =
    let l = c.loop-byte in
    joined_more (λ k. get_or c.args.bytes.now k 0 ≡ 0) l.byte-index l.joined _ ((λ e. e), (λ e. e)) l.invariant
