-- Lemmas on contexts of runs and on grants.
mod NearContexts
mod Counting
mod NearPlans
