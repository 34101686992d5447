pub mod PoolPlaces
pub mod AreaRows
pub mod AreaSteps
pub mod AreaFences
