-- What the clauses of private functions cite, and no public clause does: a reader may skip it.
pub mod Buffer
