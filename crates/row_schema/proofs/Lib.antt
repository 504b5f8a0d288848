pub mod TextLemmas
pub mod MakingLemmas
pub mod ReadingLemmas
pub mod VersionLemmas
pub mod UpgradeLemmas
pub mod CrashLemmas
pub mod FoundLemmas
