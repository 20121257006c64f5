pub mod HubState
pub mod Events
