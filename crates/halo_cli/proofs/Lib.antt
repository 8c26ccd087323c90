-- Lemmas on what commands come to, and on the answers of the whole call.
pub mod ReadsDue
pub mod CommandLaws
pub mod PlanAndFileDue
pub mod RewriteDue
pub mod RunsOnce
pub mod RunLaws
pub mod RunDue
pub mod SymbolsDue
pub mod ShowDue
pub mod GenDue
pub mod PlanDue
pub mod Valid
pub mod Policies
pub mod Due
pub mod Stopping
pub mod PlanAndFileReads
pub mod RewriteEnds
pub mod ShowEnds
pub mod PlanEnds
pub mod Rows
pub mod RanTo
pub mod FlatRuns
pub mod RunEnds
pub mod SymbolRuns
pub mod SymbolsEnds
mod ProfilingDue
mod ProfilingRuns
mod ProfilingEnds
mod Optimised
mod GeneratedFile
mod SelfDue
mod SelfEnds
mod SelfStops
mod SelfLines
