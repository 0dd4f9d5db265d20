-- A trace mended: document 02, request k. Mend.antt says what is kept and what is listed, by the replay; Laws.antt has
-- what holds of every trace. Sorted.antt, Sift.antt and Pieces.antt say how the code goes over lines, the lines of a
-- piece, and pieces.
pub mod Mend
pub mod Sorted
pub mod Sift
pub mod Pieces
pub mod Laws
pub mod Examples
