-- `fault` meets its contract.
use native.Mathlib.Omega.{arith}
use mathlib.Core.Path.{◌∙◌, sym}
use Rattle.text.proofs.Splits.{fault_here, fault_next, fault_none}
use Rattle.text.proofs.fields.fault.Goals as goal

pub returns-then-not-accepts : goal.returns-then-not-accepts
returns-then-not-accepts c = fault_here _ _ _ c.loop-k.invariant (omega arith) (omega arith) (sym c.accepts.ensures ∙ c.if-not-accepts.true)

pub loop-k-preserved : goal.loop-k-preserved
loop-k-preserved c = fault_next _ _ _ c.loop-k.invariant (omega arith) (omega arith) (sym c.accepts.ensures ∙ c.if-not-accepts.false)

pub returns : goal.returns
returns c = fault_none _ _ _ c.loop-k.invariant (omega arith)
