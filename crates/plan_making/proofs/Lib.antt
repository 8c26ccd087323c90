-- Lemmas on groups and on plans that are made of them.
mod Apart
mod Near
mod MadeFits
