-- Laws that only the proofs of `bandwidth` cite.
mod Division
