pub mod AreaRows
pub mod AreaPlans
pub mod FreshAreas
pub mod AllocStarts
pub mod AreaStarts
