-- Each arm of the match is its case of the definition; the last is reached between the ranges and past them.
use native.Mathlib.Omega.{arith}
use Rattle.state.specs.EventLaws.{tick_is, arrival_is, start_is, ending_is, nothing_is}
use Rattle.state.proofs.event.EventTryFromU8.try_from.Goals as goal

pub returns-in-0 : goal.returns-in-0
returns-in-0 c = tick_is _ (omega arith)

pub returns-in-1-to-8 : goal.returns-in-1-to-8
returns-in-1-to-8 c = arrival_is _ (omega arith) (omega arith)

pub returns-in-17-to-24 : goal.returns-in-17-to-24
returns-in-17-to-24 c = start_is _ (omega arith) (omega arith)

pub returns-in-33-to-40 : goal.returns-in-33-to-40
returns-in-33-to-40 c = ending_is _ (omega arith) (omega arith)

pub returns-in_default : goal.returns-in_default
returns-in_default c = nothing_is _ (λ t. omega arith) (λ a b. omega arith) (λ a b. omega arith) (λ a b. omega arith)

pub returns-in_default-2 : goal.returns-in_default-2
returns-in_default-2 c = nothing_is _ (λ t. omega arith) (λ a b. omega arith) (λ a b. omega arith) (λ a b. omega arith)

pub returns-in_default-3 : goal.returns-in_default-3
returns-in_default-3 c = nothing_is _ (λ t. omega arith) (λ a b. omega arith) (λ a b. omega arith) (λ a b. omega arith)
