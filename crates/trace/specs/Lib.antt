-- A trace replayed: the call that a line makes, the row that answers it, and the lines of an input. `output_of`
-- (Output.antt) is the whole of it; Laws.antt has what holds of every trace.
pub mod Made
pub mod Tally
pub mod Placed
pub mod Replay
pub mod Stream
pub mod Output
pub mod Pieces
pub mod Laws
pub mod Examples
