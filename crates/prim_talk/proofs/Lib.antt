mod Excluding
mod Giving
mod Missing
mod Talking
