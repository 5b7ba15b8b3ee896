pub mod HungForest
pub mod WeightCells
pub mod LightestRemoved
