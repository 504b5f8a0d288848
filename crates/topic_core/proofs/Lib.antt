mod Consumers
mod Goes
mod Kept
mod Restored
