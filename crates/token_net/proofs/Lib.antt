pub mod RunLemmas
pub mod ControlMoveLemmas
pub mod FiringLemmas
pub mod WakeLoops
pub mod ActLemmas
pub mod NewNetLemmas
pub mod FireShapes
pub mod FiredLemmas
