pub mod Journals
pub mod Serving
pub mod PolicyCalls
pub mod Quiet
pub mod Serial
pub mod Truth
pub mod Blocked
pub mod Standing
