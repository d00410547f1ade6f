-- What public contracts cite, and what that rests on.
pub mod Equality
pub mod Expected
pub mod Faults
pub mod Filling
pub mod GraphLaws
pub mod Kinds
pub mod Loading
pub mod Modulo
pub mod Nodes
pub mod Outputs
pub mod PlanNodes
pub mod Plans
pub mod ProfileLaws
pub mod SoundGraphs
pub mod TwinLaws
pub mod Twins
pub mod private
