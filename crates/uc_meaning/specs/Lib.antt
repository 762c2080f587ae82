pub mod Runs
pub mod SamplePrograms
pub mod ObjectSamples
pub mod RaisingSamples
pub mod CoroutineSamples
pub mod Cuts
pub mod MonitorSamples
