-- The search on a line of points: the order of positions, the rows, the pass over the vertices, and what is answered.
pub mod Before
pub mod LineRows
pub mod Narrowing
pub mod OnLine
