-- document 01, "Marked examples": all twelve as one list, in its order.
use Rattle.std.specs.Prelude.{Bool, List, ◌++◌}
use Rattle.numbers.specs.Examples.{conversions}
use Rattle.filters.specs.Examples.{filter_examples}
use Rattle.events.specs.Examples.{event_examples}
use Rattle.judge.specs.Examples.{growth_examples}
use Rattle.phases.specs.Examples.{slope_examples}

unfoldable pub marked_examples : List Bool
marked_examples = conversions ++ (event_examples ++ (filter_examples ++ (slope_examples ++ growth_examples)))
