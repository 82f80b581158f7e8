-- That the checker accepts exactly what it is to: Exact, Accepts. Computed: Rows.
pub mod Exact
pub mod Accepts
pub mod Rows
