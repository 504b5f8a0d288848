pub mod Goes
pub mod Serving
pub mod Agreeing
