pub mod NextWaiting
