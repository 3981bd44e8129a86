-- `check_of`: the sum is that of the bytes passed, the sums 1 plus their weighted sum. Assumes nothing.
use Rattle.std.proofs.Common.{ℕ, List, arith, ◌≡◌, ◌+◌, take, length, length-take}
use Rattle.blocks.specs.Sizes.{body_bytes}
use Rattle.blocks.specs.Bytes.{check_of}
use Rattle.blocks.specs.BytesLaws.{take_bytes}
use Rattle.blocks.specs.CheckLaws.{Counted, counted_none, counted_more, counted_all, once_fits, often_fits, check_le}
use Rattle.blocks.proofs.check.check_of.Goals as goal

-- the bytes before the check
body_long : (s : List ℕ) → length s ≡ 512 → length (take body_bytes s) ≡ body_bytes
body_long s l = omega (arith, length-take body_bytes s)

turn : (c : goal.After-from-sum) → Counted (take body_bytes c.args.block.now) c.next.new.self.iter.rest.now
    (c.loop-byte.sum + c.from-sum.result) (c.loop-byte.sums + (c.loop-byte.sum + c.from-sum.result))
turn c =
    let b = c.args.block.now in
    rw c.from-sum.ensures
    (counted_more c.loop-byte.invariant (body_long b c.told-block) (take_bytes body_bytes b (λ i. omega (arith, c.fits-block i)))
    c.next.new.self.iter.rest.now c.in-Some.byte.now c.in-Some.ensures.steps)

pub loop-byte-init : goal.loop-byte-init
loop-byte-init c = counted_none _ _ cc

pub overflow_add-sum : goal.overflow_add-sum
overflow_add-sum c = record { fits = omega (arith, once_fits (turn c) (body_long c.args.block.now c.told-block)) }

pub overflow_add-sums : goal.overflow_add-sums
overflow_add-sums c = record { fits = omega (arith, often_fits (turn c) (body_long c.args.block.now c.told-block)) }

pub loop-byte-preserved : goal.loop-byte-preserved
loop-byte-preserved c = turn c

pub returns : goal.returns
returns c =
    let b = c.args.block.now in
    let e : c.loop-byte.sums ≡ check_of (take body_bytes b) = counted_all c.loop-byte.invariant c.in-None.ensures.steps.0 in
    (e, rw e (check_le (take body_bytes b) (body_long b c.told-block) (take_bytes body_bytes b (λ i. omega (arith, c.fits-block i)))))
