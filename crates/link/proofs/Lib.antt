mod Passing
mod Ticking
mod Mirrored
mod Homecoming
mod Differing
mod Driving
