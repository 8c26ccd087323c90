pub mod StubRuns
