-- `step` follows step 1: by the filter's case, and what the callees promise.
use Rattle.filters.proofs.windowed_filter.step.Goals as goal

pub returns-in_default : goal.returns-in_default
returns-in_default c = rw c.in_default.is c.replaced.ensures

pub returns-then-is_replaced : goal.returns-then-is_replaced
returns-then-is_replaced c = rw (c.in-Some.is, ← c.is_replaced.ensures, c.if-is_replaced.true)
    c.replaced-then-is_replaced.ensures

pub returns-else-is_replaced : goal.returns-else-is_replaced
returns-else-is_replaced c = rw (
  c.in-Some.is,
  ← c.is_replaced.ensures,
  c.if-is_replaced.false,
  ← c.raised.ensures.estimates,
  ← c.raised.ensures.reason,
)
    c.aged.ensures
