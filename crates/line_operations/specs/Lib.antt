-- What the operations on a line store in the rows, what they touch, and what they ensure.
pub mod OnLine
pub mod Ready
