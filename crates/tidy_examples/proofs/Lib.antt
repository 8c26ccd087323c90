pub mod TidyRuns
